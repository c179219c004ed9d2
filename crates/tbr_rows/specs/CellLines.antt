-- The lines of a cell, as they are kept.
use Rattle.std.specs.Prelude.{Bool, List, map}
use Rattle.tbr_model.specs.Run.{Item}
use Rattle.tbr_border.specs.declared.render_line.RenderLine.{RenderLine}
use Rattle.tbr_border.specs.declared.render_line.RenderLine.TheVariants.{Text}
use Rattle.tbr_rows.specs.declared.cell_lines.Kept.{Kept}
use Rattle.tbr_rows.specs.declared.cell_lines.Kept.TheVariants.{Each, InText}
use Rattle.tbr_rows.specs.Stretches.{longest}

-- texts as lines, whose pieces are the longest stretches under equal tags
abbrev pub as_lines : {A : Type 0} → (A → A → Bool) → List (List (Item A)) → List (RenderLine A)
as_lines eq texts = map (λ is. Text (longest eq is)) texts

-- the lines that are kept, one by one or in a block's text
abbrev pub lines_kept : {A : Type 0} → (A → A → Bool) → Kept A → List (RenderLine A)
lines_kept eq (Each lines) = lines.items
lines_kept eq (InText texts) = as_lines eq texts
