use Rattle.tbr_tagged.proofs.Common.{◌≡◌, ◌+◌}
use Rattle.tbr_model.specs.Width as fixed
use Rattle.tbr_tagged.proofs.width.text_width.Given as goal

abbrev pub invariant-loop-c : goal.invariant-loop-c
invariant-loop-c g l = l.width ≡ l.narrow + fixed.width_of_text g.W.CharWidth.columns l.yielded
