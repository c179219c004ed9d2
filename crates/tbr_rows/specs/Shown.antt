-- What rows show of a cell.
use Rattle.std.specs.Prelude.{◌≡◌, ℕ, ◌+◌, ◌-◌, ◌≤◌, Bool, if◌then◌else◌, ◌&&◌, is_some, Option, None, Some, List, [], ◌∷◌, ◌++◌, flat_map, take, drop, length, nat_lt, ⊤, IsTrue}
use Rattle.std.specs.List.{AllByRecursion as Each}
use Rattle.tbr_model.specs.Width.{takes_one_column}
use Rattle.tbr_tagged.specs.Elements.{line_width, element_width}
use Rattle.tbr_model.specs.Run.{items_width}
use Rattle.tbr_border.specs.declared.render_line.RenderLine.{RenderLine}
use Rattle.tbr_border.specs.declared.render_line.RenderLine.TheVariants.{Text, Line}
use Rattle.tbr_border.specs.Border.{Hole, Border, has_holes}
use Rattle.tbr_rows.specs.declared.line_set.LineSet.{LineSet as Cell}
use Rattle.tbr_rows.specs.declared.column.Column.{Column}
use Rattle.tbr_rows.specs.Cells.{cell_height}
use Rattle.tbr_rows.specs.Borders.{first_mergeable, last_mergeable, after_mergeable, before_mergeable, without_first_border}
use Rattle.tbr_rows.specs.Texts.{cell_text}
use Rattle.tbr_border.specs.RenderLine.{items_under}
use Rattle.tbr_rows.specs.Gaps.{has_gap, overhang_of}

-- the lines that a row of a height shows of a cell, with the one in the border below it
abbrev pub part_of : {A : Type 0} → Bool → ℕ → Cell A → List (RenderLine A)
part_of draws height c = take height c.lines ++ (if has_gap draws c then take 1 (drop height c.lines) else [])

-- the lines that it leaves to later rows
abbrev pub later_of : {A : Type 0} → Bool → ℕ → Cell A → List (RenderLine A)
later_of draws height c = flat_map (λ d. d.lines) (overhang_of draws (record c { lines = drop height c.lines }))

-- a border that is merged, as a line
abbrev pub as_lines : {A : Type 0} → Option (Border A) → List (RenderLine A)
as_lines None = []
as_lines (Some b) = Line b ∷ []

-- ---- over all rows of a cell

-- What a cell meets in a row: whether its first border is merged, which needs one above the row, whether its last one
-- is, and how high the row is.
pub record Meeting : Type 0 where
  pub first : Bool
  pub last : Bool
  pub height : ℕ

-- the cell without what is merged
abbrev pub met : {A : Type 0} → Meeting → Cell A → Cell A
met m c =
    let under = if m.first then after_mergeable c.lines else c.lines in
    record c { lines = if m.last then before_mergeable under else under }

-- the borders that are merged
abbrev pub merged_first : {A : Type 0} → Meeting → Cell A → List (RenderLine A)
merged_first m c = if m.first then as_lines (first_mergeable c.lines) else []

abbrev pub merged_last : {A : Type 0} → Meeting → Cell A → List (RenderLine A)
merged_last m c =
    let under = if m.first then without_first_border c else c in
    if m.last then as_lines (last_mergeable under.lines) else []

-- and as it overhangs after the row
abbrev pub continued : {A : Type 0} → Bool → Meeting → Cell A → Cell A
continued draws m c = record c { span = c.span - 1; lines = later_of draws m.height (met m c) }

-- if it spans another row
abbrev pub goes_on : {A : Type 0} → Bool → Meeting → Cell A → List (Cell A)
goes_on draws m c = if nat_lt 1 c.span then continued draws m c ∷ [] else []

-- what the rows show of it, one after another
abbrev pub parts_of : {A : Type 0} → Bool → List Meeting → Cell A → List (List (RenderLine A))
parts_of draws [] c = []
parts_of draws (m ∷ ms) c = part_of draws m.height (met m c) ∷ parts_of draws ms (continued draws m c)

-- the same, with the merged borders where they were
abbrev pub parts_and_merged : {A : Type 0} → Bool → List Meeting → Cell A → List (RenderLine A)
parts_and_merged draws [] c = []
parts_and_merged draws (m ∷ ms) c =
    merged_first m c
    ++ (part_of draws m.height (met m c) ++ parts_and_merged draws ms (continued draws m c))
    ++ merged_last m c

-- what each cell of a row meets
abbrev pub meeting : {A : Type 0} → Bool → Option (Border A) → ℕ → Meeting
meeting collapses top height = record { first = collapses && is_some top; last = collapses; height = height }

-- Each of the rows is as high as the cell asks, and the last one leaves nothing.
abbrev pub AreItsRows : {A : Type 0} → Bool → List Meeting → Cell A → Type 0
AreItsRows draws [] c = c.lines ≡ []
AreItsRows draws (m ∷ ms) c = (cell_height (met m c) ≤ m.height) × AreItsRows draws ms (continued draws m c)

-- the lines that are texts, or borders with text in front of them
abbrev pub texts_in : {A : Type 0} → List (RenderLine A) → List (RenderLine A)
texts_in [] = []
texts_in (Text es ∷ ls) = Text es ∷ texts_in ls
texts_in (Line b ∷ ls) = if has_holes b.holes then Line b ∷ texts_in ls else texts_in ls

-- ---- columns

-- what a row's line shows of a cell takes the cell's columns
abbrev pub TakesCellColumns : {A : Type 0} → (ℕ → Option ℕ) → A → ℕ → Column A → Type 0
TakesCellColumns columns a i c = items_width columns (cell_text a i c) ≡ c.cell.width

-- the space and what borders are drawn with take one column
abbrev pub DrawsInOne : (ℕ → Option ℕ) → Type 0
DrawsInOne columns = (c : ℕ) → IsTrue (takes_one_column c) → columns c ≡ Some 1

-- What is in front of a border comes one after another, from a column on up to another, each as wide as its hole.
abbrev pub HolesFill : {A : Type 0} → (ℕ → Option ℕ) → ℕ → List (Hole A) → ℕ → Type 0
HolesFill columns from [] end = from ≤ end
HolesFill columns from (h ∷ hs) end =
    (from ≤ h.place) × (element_width columns h.element ≡ h.width) × HolesFill columns (h.place + h.width) hs end

-- a text that is no wider than its cell, or a border that is no longer, with what is in front of it
abbrev pub LineFits : {A : Type 0} → (ℕ → Option ℕ) → ℕ → RenderLine A → Type 0
LineFits columns width (Text es) = line_width columns es ≤ width
LineFits columns width (Line b) = (length b.cells ≤ width) × HolesFill columns 0 b.holes (length b.cells)

-- a line takes so many columns in a row
abbrev pub TakesColumns : {A : Type 0} → (ℕ → Option ℕ) → A → ℕ → RenderLine A → Type 0
TakesColumns columns a width l = items_width columns (items_under a l) ≡ width

-- what is below the lines of a cell takes its columns
abbrev pub FillsBelow : {A : Type 0} → ℕ → Option (Border A) → Type 0
FillsBelow width None = ⊤
FillsBelow width (Some b) = length b.cells ≡ width

-- Each line of a cell takes its columns, and so does what is below them.
abbrev pub LinesFillCell : {A : Type 0} → (ℕ → Option ℕ) → A → Column A → Type 0
LinesFillCell columns a c = FillsBelow c.cell.width c.bottom × Each (TakesColumns columns a c.cell.width) c.cell.lines
