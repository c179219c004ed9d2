-- The lines of spanning cells in the border below their row, and what overhangs.
use Rattle.std.specs.Prelude.{◌≡◌, ℕ, ◌-◌, ◌&&◌, nat_lt, max, Bool, true, false, if◌then◌else◌, Option, None, Some, List, [], ◌∷◌, fold, flat_map, drop}
use Rattle.tbr_border.specs.declared.render_line.RenderLine.{RenderLine}
use Rattle.tbr_border.specs.declared.render_line.RenderLine.TheVariants.{Text, Line}
use Rattle.tbr_border.specs.Border.{Border, span_end, with_span, shown}
use Rattle.tbr_tagged.specs.Elements.{Element, piece, items_of, SameItems, SameElements, IsMerged}
use Rattle.tbr_tagged.specs.Padding.{spaces}
use Rattle.tbr_rows.specs.declared.line_set.LineSet.{LineSet as Cell}
use Rattle.tbr_rows.specs.Cells.{first_line}
use Rattle.tbr_rows.specs.declared.column.Column.{Column}
use Rattle.tbr_rows.specs.Stretches.{longest}

-- whether a line of a cell is in the border below its row
abbrev pub has_gap : {A : Type 0} → Bool → Cell A → Bool
has_gap draws c = draws && nat_lt 1 c.span

-- an element in front of a border, from a place on, or after what is there
abbrev pub with_element : {A : Type 0} → (ℕ → Option ℕ) → ℕ → Border A → Element A → Border A
with_element columns place b e = with_span columns (max place (span_end b.holes)) e b

-- and several, one after another
abbrev pub with_elements : {A : Type 0} → (ℕ → Option ℕ) → ℕ → Border A → List (Element A) → Border A
with_elements columns place b es = fold (with_element columns place) b es

-- the elements of a cell's first line: those of a text, or of a border as text under its own tag, and one piece of
-- spaces where there is no line
abbrev pub gap_of : {A : Type 0} → (A → A → Bool) → A → ℕ → Option (RenderLine A) → List (Element A)
gap_of same a width None = piece (spaces width) a ∷ []
gap_of same a width (Some (Text line)) = line
gap_of same a width (Some (Line b)) = longest same (shown b.tag b)

-- what a cell has in the border below its row: these, if it spans more rows and borders are drawn
abbrev pub gap_in : {A : Type 0} → (A → A → Bool) → Bool → A → Cell A → List (Element A)
gap_in same draws a c = if has_gap draws c then gap_of same a c.width (first_line c.lines) else []

-- the border with that
abbrev pub with_gap : {A : Type 0} → (A → A → Bool) → (ℕ → Option ℕ) → Bool → A → Border A → Cell A → Border A
with_gap same columns draws a b c = with_elements columns c.place b (gap_in same draws a c)

-- The elements of a cell's first line, under equal tags.
abbrev pub IsGapText : {A : Type 0} → (A → A → Bool) → A → ℕ → Option (RenderLine A) → List (Element A) → Type 0
IsGapText eq a width None es = SameElements eq es (piece (spaces width) a ∷ [])
IsGapText eq a width (Some (Text line)) es = SameElements eq es line
IsGapText eq a width (Some (Line b)) es = SameItems eq (items_of es) (shown b.tag b) × IsMerged eq es

-- The first line of a cell comes in front of a border, if it spans rows and borders are drawn.
abbrev pub FillsGapIf : {A : Type 0} →
    Bool → (ℕ → Option ℕ) → (A → A → Bool) → A → Cell A → Border A → Border A → Type 0
FillsGapIf false columns eq a c b b' = b' ≡ b
FillsGapIf {A} true columns eq a c b b' =
    (es : List (Element A)) × IsGapText eq a c.width (first_line c.lines) es × (b' ≡ with_elements columns c.place b es)

-- and so for each cell, in order
abbrev pub FillsGaps : {A : Type 0} →
    Bool → (ℕ → Option ℕ) → (A → A → Bool) → A → List (Cell A) → Border A → Border A → Type 0
FillsGaps draws columns eq a [] b b' = b' ≡ b
FillsGaps {A} draws columns eq a (c ∷ cs) b b' =
    (m : Border A) × FillsGapIf (has_gap draws c) columns eq a c b m × FillsGaps draws columns eq a cs m b'

-- the cell of a column
abbrev pub cell_in : {A : Type 0} → Column A → Cell A
cell_in c = c.cell

-- What overhangs of a cell after its row: what it has left, without the line in the border.
abbrev pub overhang_of : {A : Type 0} → Bool → Cell A → List (Cell A)
overhang_of draws c =
    if nat_lt 1 c.span
    then record c { span = c.span - 1; lines = drop (if draws then 1 else 0) c.lines } ∷ []
    else []

abbrev pub overhang : {A : Type 0} → Bool → List (Cell A) → List (Cell A)
overhang draws cs = flat_map (overhang_of draws) cs
