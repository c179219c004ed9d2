use Rattle.tbr_renderer.proofs.Common.{◌≡◌, chars_of, struck}
use Rattle.tbr_renderer.proofs.sub.texts.struck_text.Given as goal

abbrev pub invariant-loop-c : goal.invariant-loop-c
invariant-loop-c g l = chars_of l.s ≡ struck g.W.CharWidth.columns l.fn.depth l.yielded
