use Rattle.tbr_rows.proofs.Common.{◌≡◌, map, whole_column}
use Rattle.tbr_rows.proofs.borders.whole.Given as goal

abbrev pub invariant-loop-cell : goal.invariant-loop-cell
invariant-loop-cell g l = l.columns.items ≡ map whole_column l.yielded
