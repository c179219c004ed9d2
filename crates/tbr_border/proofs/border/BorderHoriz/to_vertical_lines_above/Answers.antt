use Rattle.tbr_border.proofs.Common.{get_or, refl, string_bytes, chars-nil, IsUtf8-string_bytes, map_push, Horiz, cell_of, chars_push, one_more_at}
use Rattle.tbr_border.proofs.BorderText.{line_above_scalar}
use Rattle.tbr_border.proofs.border.BorderHoriz.to_vertical_lines_above.Goals as goal

pub loop-cell-init : goal.loop-cell-init
loop-cell-init g c = rw c.new-text.ensures.bytes chars-nil

pub loop-cell-preserved : goal.loop-cell-preserved
loop-cell-preserved g c =
    let cells = c.deref-cell-items.result.now in
    let scalar = rw (← c.line_above.ensures) at (line_above_scalar (cell_of (get_or cells c.loop-cell.cell-index Horiz))) in
    let more = one_more_at cell_of cells c.loop-cell.cell-index Horiz c.loop-cell-test.true in
    rw (
      c.in_ok-push.ensures.bytes,
      chars_push (string_bytes c.loop-cell.text) c.line_above.result (IsUtf8-string_bytes c.loop-cell.text) scalar,
      c.loop-cell.invariant,
      more,
      map_push,
      c.line_above.ensures,
    ) refl
