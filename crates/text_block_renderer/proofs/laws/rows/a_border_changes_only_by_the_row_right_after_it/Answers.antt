use Rattle.text_block_renderer.proofs.LastBorders.{lines_stay, lines_grow_by, row_becomes}
use Rattle.text_block_renderer.proofs.laws.rows.a_border_changes_only_by_the_row_right_after_it.Goals as goal

pub returns : goal.returns
returns g c = record { acts = lines_stay; call = lines_grow_by; row = row_becomes }
