-- What comes of the lines that there are where others come: a row changes a border that is the last of them, and nothing
-- else changes any.
use Rattle.std.specs.Prelude.{◌≡◌, ℕ, Option, List, [], ◌∷◌, ◌++◌}
use Rattle.tbr_rows.specs.Rows.{border_above}
use Rattle.tbr_kept_lines.specs.LastBorder.{last_border, before_border}
use Rattle.tbr_kept_lines.specs.Line.{Line}
use Rattle.tbr_renderer.specs.Rows.{border_lines}
use Rattle.text_block_renderer.specs.Acts.{PutRow, Piece, put, lines_of_piece}

module _ {D A : Type 0} (columns : ℕ → Option ℕ) where
  -- the lines above a row: if the last one is a border, it becomes what the row makes of it
  abbrev pub lines_above : PutRow D A columns → List (Line (List A)) → List (Line (List A))
  lines_above p lines =
      before_border lines ++ border_lines (border_above p.collapses p.seated (last_border lines))

  -- Where pieces come after these lines, one after another, the lines are then the last ones. A row finds just the lines
  -- that there are when it comes.
  abbrev pub BecomeBy : List (Piece D A columns) → List (Line (List A)) → List (Line (List A)) → Type 0
  BecomeBy [] lines last = last ≡ lines
  BecomeBy (put p ∷ pieces) lines last =
      (p.before.lines ≡ lines) × BecomeBy pieces (lines_above p lines ++ lines_of_piece columns (put p)) last
  BecomeBy (other ∷ pieces) lines last = BecomeBy pieces (lines ++ lines_of_piece columns other) last
