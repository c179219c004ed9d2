-- The lines of a row.
use Rattle.std.specs.Prelude.{ℕ, Bool, suc, zero, max, Option, None, Some, List, [], ◌∷◌, ◌++◌, map, fold, drop}
use Rattle.std.specs.List.{AllZip}
use Rattle.tbr_model.specs.Run.{Item}
use Rattle.tbr_border.specs.declared.render_line.RenderLine.{RenderLine}
use Rattle.tbr_border.specs.Border.{Border, lines_above}
use Rattle.tbr_border.specs.RenderLine.{items_under}
use Rattle.tbr_tagged.specs.Elements.{Element, items_of, text_items, SameItems}
use Rattle.tbr_tagged.specs.Padding.{spaces}
use Rattle.tbr_rows.specs.declared.column.Column.{Column}
use Rattle.tbr_rows.specs.Cells.{cell_height}

-- as many lines as the cell that asks for most
abbrev pub row_height : {A : Type 0} → List (Column A) → ℕ
row_height cs = fold (λ h c. max h (cell_height c.cell)) 0 cs

-- what is there where a cell has no line: spaces, or the vertical lines above its merged border
abbrev pub filler_above : {A : Type 0} → ℕ → Option (Border A) → List ℕ
filler_above width None = spaces width
filler_above width (Some b) = lines_above b

-- what a row shows of a cell that has these lines left
abbrev pub text_of_lines : {A : Type 0} → A → Column A → List (RenderLine A) → List (Item A)
text_of_lines a c [] = text_items (filler_above c.cell.width c.bottom) a
text_of_lines a c (l ∷ ls) = items_under a l

-- what its line i shows of a cell
abbrev pub cell_text : {A : Type 0} → A → ℕ → Column A → List (Item A)
cell_text a i c = text_of_lines a c (drop i c.cell.lines)

-- a cell without its first lines
abbrev pub dropped : {A : Type 0} → ℕ → Column A → Column A
dropped i c = record c { cell = record c.cell { lines = drop i c.cell.lines } }

-- a separator comes before each cell but the first
abbrev pub separator_before : {A : Type 0} → Item A → ℕ → List (Item A)
separator_before separator zero = []
separator_before separator (suc n) = separator ∷ []

-- texts with a separator between two of them
abbrev pub row_text : {A : Type 0} → Item A → List (List (Item A)) → List (Item A)
row_text separator [] = []
row_text separator (t ∷ []) = t
row_text separator (t ∷ u ∷ ts) = t ++ separator ∷ row_text separator (u ∷ ts)

abbrev pub numbers_below : ℕ → List ℕ
numbers_below zero = []
numbers_below (suc n) = numbers_below n ++ n ∷ []

-- the row's line i, and all of them
abbrev pub line_text : {A : Type 0} → Item A → A → List (Column A) → ℕ → List (Item A)
line_text separator a cs i = row_text separator (map (cell_text a i) cs)

abbrev pub line_texts : {A : Type 0} → Item A → A → List (Column A) → ℕ → List (List (Item A))
line_texts separator a cs height = map (line_text separator a cs) (numbers_below height)

-- lines show these texts, in order
abbrev pub HaveTexts : {A : Type 0} → (A → A → Bool) → List (List (Element A)) → List (List (Item A)) → Type 0
HaveTexts eq lines texts = AllZip (λ line text. SameItems eq (items_of line) text) lines texts
