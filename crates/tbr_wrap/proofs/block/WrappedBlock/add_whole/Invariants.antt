use Rattle.tbr_wrap.proofs.Common.{◌≡◌, true, length, [], ◌∷◌, call, HasGrown, lines, allows}
use denote.Shadow.{shadow}
use denote.Text.{Utf8}
use Rattle.tbr_wrap.proofs.block.WrappedBlock.add_whole.Given as goal

abbrev pub invariant-loop-rest : goal.invariant-loop-rest
invariant-loop-rest g l = record {
  utf8 : shadow (Utf8 l.rest);
  grown : HasGrown l.fn.self (call ∷ []) l.text l.rest l.main_tag l.wrap_tag l.ws_mode l.self;
  allowed : allows g.W.CharWidth.columns l.self (lines g.W.CharWidth.columns l.self) ≡ true;
}

abbrev pub decreases-loop-rest : goal.decreases-loop-rest
decreases-loop-rest g l = length l.rest
