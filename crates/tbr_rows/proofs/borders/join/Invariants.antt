use Rattle.tbr_rows.proofs.Common.{◌≡◌, map, take, above, below, end_of, joined_at_each}
use Rattle.tbr_rows.proofs.borders.join.Given as goal

abbrev pub invariant-loop-cell : goal.invariant-loop-cell
invariant-loop-cell g l = record {
  upper : l.above ≡ joined_at_each below l.initial.above (map end_of (take l.cell-index l.cell-items));
  lower : l.next ≡ joined_at_each above l.initial.next (map end_of (take l.cell-index l.cell-items));
}
