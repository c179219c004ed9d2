-- The borders above and below a row: joined at its separators, and merged with the borders of its cells.
use Rattle.std.specs.Prelude.{ℕ, ◌-◌, Bool, false, if◌then◌else◌, Option, None, Some, is_some, List, [], ◌∷◌, fold, take, drop, length}
use Rattle.tbr_border.specs.declared.render_line.RenderLine.{RenderLine}
use Rattle.tbr_border.specs.declared.render_line.RenderLine.TheVariants.{Text, Line}
use Rattle.std.specs.Borrow.{Bor}
use Rattle.tbr_border.specs.Cell.{Side, above, below}
use Rattle.tbr_border.specs.Border.{Border, has_holes, with_cells, joined_at, stretched, merged}
use Rattle.tbr_rows.specs.declared.line_set.LineSet.{LineSet as Cell}
use Rattle.tbr_rows.specs.declared.column.Column.{Column}
use Rattle.tbr_rows.specs.Cells.{row_width, separators}

-- ---- joins at the separators

-- a border with an arm to a side at a column
abbrev pub joined : {A : Type 0} → Side → Border A → ℕ → Border A
joined side b x = with_cells (joined_at side x b.cells) b

-- a border with an arm to a side at each of these columns
abbrev pub joined_at_each : {A : Type 0} → Side → Border A → List ℕ → Border A
joined_at_each side b xs = fold (joined side) b xs

-- the border above a row: it has an arm down at each separator, and is as wide as the row at least
abbrev pub above_row : {A : Type 0} → List (Cell A) → Border A → Border A
above_row cs b =
    let j = joined_at_each below b (separators cs) in
    with_cells (stretched (row_width cs) j.cells) j

-- ---- borders of cells

-- a border without holes
abbrev pub mergeable_in : {A : Type 0} → RenderLine A → Option (Border A)
mergeable_in (Text line) = None
mergeable_in (Line b) = if has_holes b.holes then None else Some b

-- whether there is a line, and it is a border without holes
abbrev pub is_mergeable : {A : Type 0} → Option (Bor (RenderLine A)) → Bool
is_mergeable None = false
is_mergeable (Some l) = is_some (mergeable_in l.now)

-- the first line, and the last one, where it is such a border
abbrev pub first_mergeable : {A : Type 0} → List (RenderLine A) → Option (Border A)
first_mergeable [] = None
first_mergeable (l ∷ ls) = mergeable_in l

abbrev pub last_mergeable : {A : Type 0} → List (RenderLine A) → Option (Border A)
last_mergeable ls = first_mergeable (drop (length ls - 1) ls)

-- and the lines without it
abbrev pub after_mergeable : {A : Type 0} → List (RenderLine A) → List (RenderLine A)
after_mergeable ls = if is_some (first_mergeable ls) then drop 1 ls else ls

abbrev pub before_mergeable : {A : Type 0} → List (RenderLine A) → List (RenderLine A)
before_mergeable ls = if is_some (last_mergeable ls) then take (length ls - 1) ls else ls

-- a border into which another, if there is one, is merged at a place
abbrev pub merged_with : {A : Type 0} → Side → ℕ → Border A → Option (Border A) → Border A
merged_with side place b None = b
merged_with side place b (Some o) = with_cells (merged side b.cells place o.cells) b

-- ---- merging

-- the border above a row, into which the first borders of cells are merged, and the cells without these
abbrev pub merged_below : {A : Type 0} → Border A → Cell A → Border A
merged_below b c = merged_with below c.place b (first_mergeable c.lines)

abbrev pub without_first_border : {A : Type 0} → Cell A → Cell A
without_first_border c = record c { lines = after_mergeable c.lines }

-- the next border, into which the last borders of cells are merged, and the cells that keep these apart
abbrev pub merged_above : {A : Type 0} → Border A → Cell A → Border A
merged_above b c = merged_with above c.place b (last_mergeable c.lines)

abbrev pub with_last_border_apart : {A : Type 0} → Cell A → Column A
with_last_border_apart c = record { cell = record c { lines = before_mergeable c.lines }; bottom = last_mergeable c.lines }

-- cells of which no border is merged
abbrev pub whole_column : {A : Type 0} → Cell A → Column A
whole_column c = record { cell = c; bottom = None }
