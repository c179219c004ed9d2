-- Rows: what a list of cells comes to between a border above and one below.
use Rattle.std.specs.Prelude.{◌≡◌, ℕ, Bool, if◌then◌else◌, ⊤, Option, None, Some, List, [], map, fold, replicate, option_map}
use Rattle.tbr_model.specs.Run.{Item, glyph}
use Rattle.tbr_model.specs.Codes.{space_character}
use Rattle.tbr_tagged.specs.Elements.{items_of}
use Rattle.tbr_border.specs.Cell.{horizontal, above}
use Rattle.tbr_border.specs.Border.{Border, without_holes, SameBorder}
use Rattle.tbr_rows.specs.declared.line_set.LineSet.{LineSet as Cell}
use Rattle.tbr_rows.specs.declared.column.Column.{Column}
use Rattle.tbr_rows.specs.declared.row.Row.{Row}
use Rattle.tbr_rows.specs.declared.row.RowStyle.{RowStyle}
use Rattle.tbr_rows.specs.Cells.{row_width, separators, with_hanging}
use Rattle.tbr_rows.specs.Borders.{joined_at_each, above_row, merged_below, without_first_border, merged_above, with_last_border_apart, whole_column}
use Rattle.tbr_rows.specs.Texts.{row_height, line_texts, dropped, HaveTexts}
use Rattle.tbr_rows.specs.Gaps.{cell_in, with_gap, overhang}

-- ---- the border above

-- It is joined at the separators, and a collapsing row merges the first borders of its cells into it.
abbrev pub border_above : {A : Type 0} → Bool → List (Cell A) → Option (Border A) → Option (Border A)
border_above collapses cs None = None
border_above collapses cs (Some b) =
    Some (if collapses then fold merged_below (above_row cs b) cs else above_row cs b)

-- the cells that are left under it
abbrev pub cells_under : {A : Type 0} → Bool → Option (Border A) → List (Cell A) → List (Cell A)
cells_under collapses None cs = cs
cells_under collapses (Some b) cs = if collapses then map without_first_border cs else cs

-- the next border, joined at the separators where there is one above
abbrev pub next_under : {A : Type 0} → Option (Border A) → List (Cell A) → Border A → Border A
next_under None cs next = next
next_under (Some b) cs next = joined_at_each above next (separators cs)

-- ---- the border below

-- a collapsing row merges the last borders of its cells into it
abbrev pub next_merged : {A : Type 0} → Bool → List (Cell A) → Border A → Border A
next_merged collapses cs next = if collapses then fold merged_above next cs else next

-- what the row shows of its cells then
abbrev pub columns_shown : {A : Type 0} → Bool → List (Cell A) → List (Column A)
columns_shown collapses cs = if collapses then map with_last_border_apart cs else map whole_column cs

-- what its cells have left after so many lines
abbrev pub cells_left : {A : Type 0} → ℕ → List (Column A) → List (Cell A)
cells_left height columns = map cell_in (map (dropped height) columns)

-- the border below a row of these cells under a border, as it begins, made of a plain one
abbrev pub next_begun : {A : Type 0} → RowStyle → Option (Border A) → List (Cell A) → Border A → Border A
next_begun style top cs plain =
    next_merged style.collapses (cells_under style.collapses top cs) (next_under top cs plain)

-- what the row shows of them
abbrev pub shown_in : {A : Type 0} → RowStyle → Option (Border A) → List (Cell A) → List (Column A)
shown_in style top cs = columns_shown style.collapses (cells_under style.collapses top cs)

-- and what they have left then
abbrev pub left_in : {A : Type 0} → RowStyle → Option (Border A) → List (Cell A) → List (Cell A)
left_in style top cs = cells_left (row_height (shown_in style top cs)) (shown_in style top cs)

-- ---- rows

-- `│`
abbrev pub vertical_bar : ℕ
vertical_bar = 0x2502

-- what parts two cells
abbrev pub separator_in : RowStyle → ℕ
separator_in style = if style.draws_borders then vertical_bar else space_character

-- a border, if borders are drawn
abbrev pub drawn_in : {A : Type 0} → RowStyle → Border A → Option (Border A)
drawn_in style b = if style.draws_borders then Some b else None

-- ─ throughout, and nothing in front of it
abbrev pub plain_border : {A : Type 0} → ℕ → A → Border A
plain_border width a = without_holes (replicate width horizontal) a

-- What is seen of a row: the borders above and below it, its lines, and what overhangs.
pub record SeenRow (A : Type 0) : Type 0 where
  pub above : Option (Border A)
  pub lines : List (List (Item A))
  pub next : Option (Border A)
  pub overhang : List (Cell A)

module _ {A : Type 0} (same : A → A → Bool) (columns : ℕ → Option ℕ) (style : RowStyle) (a : A) where
  -- the border below a row: as it begins, and then with the lines of spanning cells
  abbrev pub border_below : Option (Border A) → List (Cell A) → Border A
  border_below top cells =
      let begun = next_begun style top cells (plain_border (row_width cells) a) in
      fold (with_gap same columns style.draws_borders a) begun (left_in style top cells)

  -- the row of cells that have their places, under a border, if there is one
  abbrev pub row_under : Option (Border A) → List (Cell A) → SeenRow A
  row_under top cells = record {
    above = border_above style.collapses cells top;
    lines = line_texts (glyph (separator_in style) a) a (shown_in style top cells) (row_height (shown_in style top cells));
    next = drawn_in style (border_below top cells);
    overhang = overhang style.draws_borders (left_in style top cells);
  }

  -- The row of these cells and of those that overhang, and none where one of those has no place. What tells tags apart
  -- says how far pieces of text go.
  abbrev pub row_of : List (Cell A) → List (Cell A) → Option (Border A) → Option (SeenRow A)
  row_of hanging own top = option_map (row_under top) (with_hanging 0 hanging own)

-- ---- rows that are laid out

-- what is seen of one
abbrev pub row_seen : {A : Type 0} → Row A → SeenRow A
row_seen row = record {
  above = row.above;
  lines = map items_of row.lines.items;
  next = row.next;
  overhang = row.overhang;
}

-- a border, if there is one, up to equal tags
abbrev pub SameIfAny : {A : Type 0} → (A → A → Bool) → Option (Border A) → Option (Border A) → Type 0
SameIfAny eq None None = ⊤
SameIfAny eq (Some b) (Some c) = SameBorder eq b c
SameIfAny eq _ _ = ⊥

-- A row that is laid out is one that is seen, but for copies of tags.
pub record IsLaidOut {A : Type 0} (eq : A → A → Bool) (row : Row A) (seen : SeenRow A) : Type 0 where
  pub upper : row.above ≡ seen.above
  pub texts : HaveTexts eq row.lines.items seen.lines
  pub lower : SameIfAny eq row.next seen.next
  pub rest : row.overhang ≡ seen.overhang
