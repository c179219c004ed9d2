use Rattle.tbr_model.proofs.Common.{arith, add-one}
use Rattle.tbr_model.proofs.layouts.StoredSlots.{rest_width_more, gap_byte}
use Rattle.tbr_model.proofs.layout.line_width.Goals as goal

pub loop-slot-preserved : goal.loop-slot-preserved
loop-slot-preserved g c =
    let slot = c.slot-item.result in
    let more = rest_width_more c.in-Some.others.now c.loop-slot.slot-index slot c.loop-slot-test.true c.slot-item.is in
    let gap = gap_byte slot.gap c.from-gap.result c.is_some.result c.from-gap.ensures c.is_some.ensures in
    (rw add-one (omega (arith, c.in_ok-taken.ensures.1, c.in_ok-checked_add.ensures.1, more, gap, c.loop-slot.invariant.0)), omega (arith, c.in_ok-taken.ensures.0, c.in_ok-taken.ensures.1))
