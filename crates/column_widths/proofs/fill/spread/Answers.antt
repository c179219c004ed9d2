use Rattle.column_widths.proofs.Common.{arith, width_of}
use Rattle.column_widths.proofs.Walks.{element_in_sum}
use Rattle.column_widths.proofs.fill.spread.Goals as goal

pub widen-requires : goal.widen-requires
widen-requires c =
    omega (arith, element_in_sum (width_of c.args.bound) _ c.args.columns.now c.loop-need.need-index record { least = 0; greatest = 0 } c.loop-need.invariant.left (omega arith))
