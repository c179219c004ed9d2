use Rattle.tbr_rows.proofs.Common.{◌≡◌, rules, refl, map-append, fold-append, merged_below}
use Rattle.tbr_rows.proofs.borders.merge_first.Goals.{in-Some-take_first_border+in_ok-merge_from_below, in_default}
use Rattle.tbr_rows.proofs.borders.merge_first.Goals as goal

pub loop-cell-preserved : goal.loop-cell-preserved
loop-cell-preserved g c =
    let inv = c.loop-cell.invariant in let cell = c.in-Some.cell in let yielded = c.loop-cell.yielded in
    let one : c.match-take_first_border.above ≡ merged_below c.loop-cell.above cell =
    elim c.match-take_first_border.branch [ in-Some-take_first_border+in_ok-merge_from_below w ↦ search rules | in_default w ↦ search rules ] in
    record {
      upper = rw (one, inv.upper, fold-append) refl;
      cells = rw (c.in_ok-push.ensures.items, inv.cells, c.take_first_border.ensures.rest, map-append) refl;
    }
