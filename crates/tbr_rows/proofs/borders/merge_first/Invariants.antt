use Rattle.tbr_rows.proofs.Common.{◌≡◌, map, fold, merged_below, without_first_border}
use Rattle.tbr_rows.proofs.borders.merge_first.Given as goal

abbrev pub invariant-loop-cell : goal.invariant-loop-cell
invariant-loop-cell g l = record {
  upper : l.above ≡ fold merged_below l.initial.above l.yielded;
  cells : l.rest.items ≡ map without_first_border l.yielded;
}
