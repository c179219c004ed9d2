-- The lines of a cell as it comes, filled up to its width.
use Rattle.std.specs.Prelude.{◌≡◌, ℕ, ◌-◌, Bool, Option, List}
use Rattle.tbr_model.specs.Run.{Item, items_width}
use Rattle.tbr_border.specs.declared.render_line.RenderLine.{RenderLine}
use Rattle.tbr_border.specs.declared.render_line.RenderLine.TheVariants.{Text, Line}
use Rattle.tbr_border.specs.Border.{with_cells, stretched}
use Rattle.tbr_tagged.specs.declared.padding.CellAlign.{CellAlign}
use Rattle.tbr_tagged.specs.Elements.{items_of, SameItems, IsMerged}
use Rattle.tbr_tagged.specs.Padding.{aligned_items, columns_missing}
use Rattle.tbr_rows.specs.declared.line_set.LineSet.{LineSet as Cell}
use Rattle.tbr_rows.specs.Cells.{next_place}

-- A text is filled with spaces, as the alignment says, and a border is stretched.
abbrev pub FillsLine : {A : Type 0} →
    (ℕ → Option ℕ) → (A → A → Bool) → CellAlign → ℕ → A → RenderLine A → RenderLine A → Type 0
FillsLine columns eq align width a (Text es) (Text done) =
    SameItems eq (items_of done) (aligned_items align (items_of es) (columns_missing columns width es) a)
    × (IsMerged eq es → IsMerged eq done)
FillsLine columns eq align width a (Line b) (Line done) = done ≡ with_cells (stretched width b.cells) b
FillsLine columns eq align width a _ _ = ⊥

-- So is a text that a block has ended, in the longest pieces under equal tags.
abbrev pub FillsText : {A : Type 0} →
    (ℕ → Option ℕ) → (A → A → Bool) → CellAlign → ℕ → A → List (Item A) → RenderLine A → Type 0
FillsText columns eq align width a is (Text done) =
    SameItems eq (items_of done) (aligned_items align is (width - items_width columns is) a) × IsMerged eq done
FillsText columns eq align width a is (Line done) = ⊥

-- a cell after these and a separator
abbrev pub cell_after : {A : Type 0} → List (Cell A) → ℕ → ℕ → List (RenderLine A) → Cell A
cell_after cs width span lines = record { place = next_place cs; width = width; span = span; lines = lines }
