-- Rows by what tags mean.
use Rattle.std.specs.Prelude.{◌≡◌, ◌↔◌, IsTrue, ℕ, Bool, true, Option, List, map, option_map}
use Rattle.tbr_model.specs.Mapped.{map_items}
use Rattle.tbr_border.specs.declared.render_line.RenderLine.{RenderLine}
use Rattle.tbr_border.specs.declared.render_line.RenderLine.TheVariants.{Text, Line}
use Rattle.tbr_border.specs.Border.{Hole, Border, with_cells, stretched}
use Rattle.tbr_tagged.specs.Elements.{items_of}
use Rattle.tbr_tagged.specs.Padding.{aligned_items, columns_missing}
use Rattle.tbr_tagged.specs.declared.padding.CellAlign.{CellAlign}
use Rattle.tbr_rows.specs.declared.line_set.LineSet.{LineSet as Cell}
use Rattle.tbr_rows.specs.declared.column.Column.{Column}
use Rattle.tbr_rows.specs.declared.row.Row.{Row}
use Rattle.tbr_rows.specs.Rows.{SeenRow}
pub use Rattle.tbr_tagged.specs.Mapped.{map_element}

-- ---- borders, lines and cells under other tags, each as what a function makes of it

abbrev pub map_hole : {A B : Type 0} → (A → B) → Hole A → Hole B
map_hole f h = record { place = h.place; width = h.width; element = map_element f h.element }

abbrev pub map_border : {A B : Type 0} → (A → B) → Border A → Border B
map_border f b = record { cells = b.cells; tag = f b.tag; holes = map (map_hole f) b.holes }

abbrev pub map_line : {A B : Type 0} → (A → B) → RenderLine A → RenderLine B
map_line f (Text es) = Text (map (map_element f) es)
map_line f (Line b) = Line (map_border f b)

abbrev pub map_cell : {A B : Type 0} → (A → B) → Cell A → Cell B
map_cell f c = record { place = c.place; width = c.width; span = c.span; lines = map (map_line f) c.lines }

abbrev pub map_column : {A B : Type 0} → (A → B) → Column A → Column B
map_column f c = record { cell = map_cell f c.cell; bottom = option_map (map_border f) c.bottom }

-- tags that mean the same are equal
abbrev pub EqualIfMeant : {A B : Type 0} → (A → B) → (A → A → Bool) → Type 0
EqualIfMeant {A} f eq = (x y : A) → f x ≡ f y → eq x y ≡ true

-- It tells whether two tags are the same.
abbrev pub TellsApart : {A : Type 0} → (A → A → Bool) → Type 0
TellsApart {A} same = (a b : A) → IsTrue (same a b) ↔ (a ≡ b)

-- ---- lines that are filled

-- A text is filled with spaces up to its cell's width, as the alignment says, and a border is stretched.
abbrev pub MeansFilled : {A : Type 0} →
    (ℕ → Option ℕ) → CellAlign → ℕ → A → RenderLine A → RenderLine A → Type 0
MeansFilled columns align width a (Text es) (Text done) =
    items_of done ≡ aligned_items align (items_of es) (columns_missing columns width es) a
MeansFilled columns align width a (Line b) (Line done) = done ≡ with_cells (stretched width b.cells) b
MeansFilled columns align width a _ _ = ⊥

-- ---- rows

-- a row by what its tags mean
abbrev pub row_meant : {A B : Type 0} → (A → B) → Row A → SeenRow B
row_meant f row = record {
  above = option_map (map_border f) row.above;
  lines = map (λ es. map_items f (items_of es)) row.lines.items;
  next = option_map (map_border f) row.next;
  overhang = map (map_cell f) row.overhang;
}
