use Rattle.tbr_wrap.proofs.runs.HeldRuns.{holds_new}
use Rattle.tbr_wrap.proofs.block.WrappedBlock.new.Goals as goal

pub invariant_of-result : goal.invariant_of-result
invariant_of-result g c = λ _.
    rw (c.in_ok-new.ensures.ok, c.new-2.ensures)
    (holds_new g.W.CharWidth.columns g.T.PartialEq.eq c.new-wrapper.result _ _ _ (c.new-wrapper.ensures.stands g.W.CharWidth.columns g.T.PartialEq.eq))
