use Rattle.tbr_rows.proofs.Common.{◌≡◌, append_all}
use Rattle.tbr_rows.proofs.seating.append_all.Given as goal

abbrev pub invariant-loop-cell : goal.invariant-loop-cell
invariant-loop-cell g l = l.row.items ≡ append_all l.initial.row.items l.yielded
