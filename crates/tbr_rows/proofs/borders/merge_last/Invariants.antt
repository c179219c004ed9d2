use Rattle.tbr_rows.proofs.Common.{◌≡◌, map, fold, merged_above, with_last_border_apart}
use Rattle.tbr_rows.proofs.borders.merge_last.Given as goal

abbrev pub invariant-loop-cell : goal.invariant-loop-cell
invariant-loop-cell g l = record {
  lower : l.next ≡ fold merged_above l.initial.next l.yielded;
  columns : l.columns.items ≡ map with_last_border_apart l.yielded;
}
