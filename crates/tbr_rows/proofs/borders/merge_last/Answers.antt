use Rattle.tbr_rows.proofs.Common.{arith, map-append, fold-append}
use Rattle.tbr_rows.proofs.borders.merge_last.Goals.{in-Some-bottom+in_ok-merge_from_above, in_default}
use Rattle.tbr_rows.proofs.borders.merge_last.Goals as goal

pub loop-cell-preserved : goal.loop-cell-preserved
loop-cell-preserved g c = grind (arith, in-Some-bottom+in_ok-merge_from_above, in_default, fold-append, map-append, c.loop-cell.invariant, c.in_ok-push.ensures.items)
