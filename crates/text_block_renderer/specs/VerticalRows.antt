-- Cells below one another, as lines.
use Rattle.std.specs.Prelude.{ℕ, Option, List, [], ◌∷◌, ◌++◌, map}
use Rattle.std.specs.List.{join_by}
use Rattle.tbr_model.specs.Run.{Item}
use Rattle.tbr_model.specs.Markers.{marker_items}
use Rattle.tbr_border.specs.Cell.{horizontal, slash}
use Rattle.tbr_kept_lines.specs.Line.{Line}
use Rattle.tbr_renderer.specs.Renderer.{Renderer}
use Rattle.tbr_renderer.specs.Appended.{border_line, border_of_cells, as_text}
use Rattle.text_block_renderer.specs.Stretches.{padded_line}

-- the texts of cells, the first of them after markers
abbrev pub marked : {T : Type 0} → List (List ℕ) → List (List (List (Item T))) → List (List (List (Item T)))
marked names [] = []
marked names ([] ∷ cells) = [] ∷ marked names cells
marked names ((is ∷ texts) ∷ cells) = ((marker_items names ++ is) ∷ texts) ∷ cells

-- The cells with a slashed border between each two, and a plain one after them. The first text comes after the markers
-- that wait, and each is padded.
abbrev pub row_lines : {D A : Type 0} →
    (ℕ → Option ℕ) → Renderer D A (List A) → List (List (Line (List A))) → List (Line (List A))
row_lines columns r cells =
    let slashed = border_line columns r (border_of_cells slash r.width r) in
    let plain = border_line columns r (border_of_cells horizontal r.width r) in
    join_by (map (padded_line columns r)) (slashed ∷ []) (marked r.waiting (map (map (as_text r.annotations)) cells))
    ++ plain ∷ []
