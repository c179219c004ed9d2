use Rattle.tbr_border.proofs.Common.{append_assoc, string_bytes, IsUtf8-string_bytes, cell_of, chars_push}
use Rattle.std.proofs.Math.Utf8.{encode}
use Rattle.tbr_border.proofs.BorderText.{character_scalar}
use Rattle.tbr_border.proofs.StraightCells.{straight_first, straight_after}
use Rattle.tbr_border.proofs.border.draw.Goals as goal

pub loop-cell-preserved-in-Some-strip_prefix : goal.loop-cell-preserved-in-Some-strip_prefix
unfolding encode
loop-cell-preserved-in-Some-strip_prefix c =
    let found = c.in-Some-strip_prefix.ensures.cases in
    rw (c.in_ok-push_str-in-Some-strip_prefix.ensures.bytes, straight_after (string_bytes c.loop-cell.text) (IsUtf8-string_bytes c.loop-cell.text), append_assoc, found.1)
    (rw (straight_first c.loop-cell.rest.now found.0) at c.loop-cell.invariant)

pub loop-cell-preserved : goal.loop-cell-preserved
loop-cell-preserved c =
    let scalar = rw (← c.character.ensures) at (character_scalar (cell_of c.in-Some.cell.now)) in
    rw (c.in_ok-push-in-None.ensures.bytes, chars_push (string_bytes c.loop-cell.text) c.character.result (IsUtf8-string_bytes c.loop-cell.text) scalar, c.character.ensures, append_assoc)
    (rw c.in-Some.ensures.cases.0 at c.loop-cell.invariant)
