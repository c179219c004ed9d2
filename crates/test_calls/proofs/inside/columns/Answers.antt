use Rattle.std.proofs.Common.{◌<◌, arith}
use Rattle.tbr_model.proofs.lists.Each.{each_append}
use Rattle.test_calls.proofs.inside.columns.Goals as goal

pub loop-cell-preserved : goal.loop-cell-preserved
loop-cell-preserved g c =
    rw c.in_ok-push.ensures.items (each_append (λ cell. 0 < cell.1) c.loop-cell.cols.items _ c.loop-cell.invariant (omega arith, tt))
