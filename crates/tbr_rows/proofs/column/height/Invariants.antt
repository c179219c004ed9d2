use Rattle.tbr_rows.proofs.Common.{◌≡◌, take, row_height}
use Rattle.tbr_rows.proofs.column.height.Given as goal

abbrev pub invariant-loop-column : goal.invariant-loop-column
invariant-loop-column g l = l.height ≡ row_height (take l.column-index l.columns)
