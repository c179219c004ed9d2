-- Rows of cells side by side: what comes into them, and what they add to a renderer.
use Rattle.std.specs.Prelude.{◌≡◌, ℕ, ◌+◌, ◌-◌, Bool, true, not, ◌&&◌, is_none, Option, None, Some, List, [], ◌∷◌, ◌++◌, map, fold, drop, refl}
use Rattle.std.specs.Option.{option_map}
use Rattle.tbr_model.specs.Run.{items_width}
use Rattle.tbr_wrap.specs.Block.{any_line, has_no_character}
use Rattle.tbr_border.specs.Border.{Border, with_cells, stretched}
use Rattle.tbr_tagged.specs.Elements.{items_of, SameItems, IsMerged}
use Rattle.tbr_tagged.specs.Padding.{aligned_items}
use Rattle.tbr_wrap.specs.Runs.{is_some_list}
use Rattle.tbr_tagged.specs.declared.CellAlign.{CellAlign}
use Rattle.tbr_tagged.specs.declared.CellAlign.TheVariants.{Left}
use Rattle.tbr_border.specs.declared.RenderLine.{RenderLine}
use Rattle.tbr_border.specs.declared.RenderLine.TheVariants.{Text, Line as Rule}
use Rattle.tbr_rows.specs.Cells.{AreSideBySide, Spot, spots_from}
use Rattle.tbr_rows.specs.Rows.{SeenRow, row_under, row_of}
use Rattle.tbr_rows.specs.Stretches.{longest}
use Rattle.tbr_rows.specs.declared.LineSet.{LineSet as Cell}
use Rattle.tbr_rows.specs.declared.RowStyle.{RowStyle}
use Rattle.tbr_kept_lines.specs.LastBorder.{last_border, before_border}
use Rattle.tbr_kept_lines.specs.Line.{Line, text, border}
use Rattle.tbr_renderer.specs.Renderer.{Open, Renderer, with_line}
use Rattle.tbr_renderer.specs.Flush.{block_in, after_flush}
use Rattle.tbr_tagged.specs.Outcome.{Outcome, done, refused, if_live}
use Rattle.tbr_tagged.specs.declared.Error.TheVariants as E
use Rattle.tbr_renderer.specs.Outcomes.{and_then, changed}
use Rattle.tbr_renderer.specs.Appended.{with_border, handed_out}

-- ---- renderers with nothing in them

-- whether no block is open, or no line of the open one has ended, and what is open there holds no character
abbrev pub block_is_blank : {D A T : Type 0} → (ℕ → Option ℕ) → Renderer D A T → Option (Open T) → Bool
block_is_blank columns r None = true
block_is_blank columns r (Some b) =
    let s = block_in r b in not (any_line columns s) && has_no_character columns s

-- It hasn't failed, its open block, if any, is blank, and it has no line.
abbrev pub is_blank : {D A T : Type 0} → (ℕ → Option ℕ) → Renderer D A T → Bool
is_blank columns r = is_none r.failure && (block_is_blank columns r r.block && not (is_some_list r.lines))

-- a renderer that comes with a span, as a cell of a row: its width, and whether nothing is in it
abbrev pub looks : {D A T : Type 0} → (ℕ → Option ℕ) → Renderer D A T × ℕ → ℕ × Bool
looks columns col = (col.0.width, is_blank columns col.0)

-- where renderers that come as cells will be, and whether nothing is in them
abbrev pub spots_of : {D A T : Type 0} → (ℕ → Option ℕ) → List (Renderer D A T × ℕ) → List Spot
spots_of columns cols = spots_from 0 (map (looks columns) cols)

-- A cell of a renderer takes the renderer's columns, and has no line where nothing is in the renderer.
abbrev pub LeavesFree : {D A T : Type 0} → (ℕ → Option ℕ) → Renderer D A T × ℕ → Cell T → Type 0
LeavesFree columns col cell = (cell.width ≡ col.0.width) × (is_blank columns col.0 ≡ true → cell.lines ≡ [])

-- ---- what comes into a row

-- A cell as it comes: how many columns it takes, how many rows it spans, how its texts are aligned, and its lines.
pub record GivenCell (T : Type 0) : Type 0 where
  pub width : ℕ
  pub span : ℕ
  pub align : CellAlign
  pub lines : List (Line T)

-- A line as a renderer keeps it is filled up to a width. A text is filled with spaces as the alignment says, in pieces
-- that are the longest stretches under equal tags, and a border with `─`.
abbrev pub FillsKept : {A : Type 0} →
    (ℕ → Option ℕ) → (A → A → Bool) → CellAlign → ℕ → A → Line A → RenderLine A → Type 0
FillsKept columns eq align width a (text is) (Text es) =
    SameItems eq (items_of es) (aligned_items align is (width - items_width columns is) a) × IsMerged eq es
FillsKept columns eq align width a (border b) (Rule filled) = filled ≡ with_cells (stretched width b.cells) b
FillsKept columns eq align width a (text is) (Rule filled) = ⊥
FillsKept columns eq align width a (border b) (Text es) = ⊥

-- the alignment that is next: at the left where none is given
abbrev pub next_align : List CellAlign → CellAlign
next_align [] = Left
next_align (align ∷ aligns) = align

-- the cell that a renderer with a span gives, by its columns and the lines that it hands out
module _ {S T : Type 0} (columns_of : S → ℕ) (hand_out : S → Outcome (List (Line T))) where
  abbrev pub cell_given : S × ℕ → CellAlign → Outcome (GivenCell T)
  cell_given col align =
      changed (λ lines. record { width = columns_of col.0; span = col.1; align = align; lines = lines }) (hand_out col.0)

  -- the cells of all, each with the alignment that is next, or the first refusal
  abbrev pub cells_given : List (S × ℕ) → List CellAlign → Outcome (List (GivenCell T))
  cells_given [] aligns = done []
  cells_given (col ∷ cols) aligns =
      let others = cells_given cols (drop 1 aligns) in
      and_then (cell_given col (next_align aligns)) (λ cell. changed (λ cells. cell ∷ cells) others)

-- the same of renderers
abbrev pub cells_handed_out : {D A : Type 0} → (ℕ → Option ℕ) → List (Renderer D A (List A) × ℕ) → List CellAlign →
    Outcome (List (GivenCell (List A)))
cells_handed_out columns cols aligns = cells_given (λ r. r.width) (λ r. handed_out columns r) cols aligns

-- ---- the cells in the row

module _ {A : Type 0} (same : A → A → Bool) (columns : ℕ → Option ℕ) where
  -- A line of a cell, filled up to its width: a text with spaces as the alignment says, in pieces that are the longest
  -- stretches under one annotation, and a border with `─`.
  abbrev pub filled : CellAlign → ℕ → A → Line A → RenderLine A
  filled align width a (text is) = Text (longest same (aligned_items align is (width - items_width columns is) a))
  filled align width a (border b) = Rule (with_cells (stretched width b.cells) b)

  -- a cell that comes, at its place in the row
  abbrev pub cell_from : A → ℕ → GivenCell A → Cell A
  cell_from a at given = record {
    place = at;
    width = given.width;
    span = given.span;
    lines = map (filled given.align given.width a) given.lines;
  }

  -- the cells of a row that come, side by side from a column on
  abbrev pub cells_from : A → ℕ → List (GivenCell A) → List (Cell A)
  cells_from a at [] = []
  cells_from a at (given ∷ more) = cell_from a at given ∷ cells_from a (at + given.width + 1) more

  pub are_side_by_side : (a : A) (at : ℕ) (cells : List (GivenCell A)) → AreSideBySide at (cells_from a at cells)
  are_side_by_side a at [] = tt
  are_side_by_side a at (given ∷ more) = (refl, are_side_by_side a (at + given.width + 1) more)

-- the cells that come to a renderer, as they are in the row
abbrev pub own_cells : {D A : Type 0} →
    (List A → List A → Bool) → (ℕ → Option ℕ) → List (GivenCell (List A)) → Renderer D A (List A) → List (Cell (List A))
own_cells same columns cells r = cells_from same columns r.annotations 0 cells

-- ---- the border above

-- a border as lines, if there is one
abbrev pub border_lines : {T : Type 0} → Option (Border T) → List (Line T)
border_lines None = []
border_lines (Some b) = border b ∷ []

-- ---- what a row adds

-- how a renderer draws a row: with borders, if its options say so, and collapsing or not
abbrev pub style_in : {D A T : Type 0} → Renderer D A T → Bool → RowStyle
style_in r collapses = record { draws_borders = r.options.draw_borders; collapses = collapses }

-- a border more, if there is one
abbrev pub with_next : {D A : Type 0} →
    (ℕ → Option ℕ) → Renderer D A (List A) → Option (Border (List A)) → Renderer D A (List A)
with_next columns r None = r
with_next columns r (Some b) = with_border columns r b

-- The border above a row, its lines and the border below come after the others, and what overhangs waits for the next
-- row.
abbrev pub with_row_after : {D A : Type 0} →
    (ℕ → Option ℕ) → Renderer D A (List A) → SeenRow (List A) → Renderer D A (List A)
with_row_after columns r row =
    let top = record r { lines = r.lines ++ border_lines row.above; hanging = row.overhang } in
    with_next columns (fold (with_line columns) top row.lines) row.next

-- the border above comes in the place of the last line, if that was it
abbrev pub with_row : {D A : Type 0} →
    (ℕ → Option ℕ) → Renderer D A (List A) → SeenRow (List A) → Renderer D A (List A)
with_row columns r row = with_row_after columns (record r { lines = before_border r.lines }) row

-- What a row left, if it had a place. Nobody may ask for one that hasn't, so only memory can refuse it.
abbrev pub placed : {S : Type 0} → Option S → Outcome S
placed None = refused E.OutOfMemory
placed (Some s) = done s

module _ {D A : Type 0} (same : List A → List A → Bool) (columns : ℕ → Option ℕ) (collapses : Bool) where
  -- the row of cells that have their places in a renderer, under the last line, if that is a border
  abbrev pub row_seated : Renderer D A (List A) → List (Cell (List A)) → SeenRow (List A)
  row_seated r seated = row_under same columns (style_in r collapses) r.annotations (last_border r.lines) seated

  -- The row of own cells, beside those that overhang, and none where one of those has no place.
  abbrev pub row_in : Renderer D A (List A) → List (Cell (List A)) → Option (SeenRow (List A))
  row_in r own = row_of same columns (style_in r collapses) r.annotations r.hanging own (last_border r.lines)

  -- what that leaves
  abbrev pub row_put_of : Renderer D A (List A) → List (Cell (List A)) → Option (Renderer D A (List A))
  row_put_of r own = option_map (with_row columns r) (row_in r own)

  -- what a row of these cells leaves
  abbrev pub row_put : List (GivenCell (List A)) → Renderer D A (List A) → Option (Renderer D A (List A))
  row_put cells r = row_put_of r (own_cells same columns cells r)

  -- what it makes of a renderer that hasn't failed: a flush comes first
  abbrev pub row_made : List (GivenCell (List A)) → Renderer D A (List A) → Outcome (Renderer D A (List A))
  row_made cells r = and_then (after_flush columns r) (λ m. placed (row_put cells m))

  -- and of any
  abbrev pub after_row : List (GivenCell (List A)) → Renderer D A (List A) → Outcome (Renderer D A (List A))
  after_row cells r = if_live r.failure (row_made cells r)
