use Rattle.text_block_renderer.proofs.VerticalRows.{row_drawn, row_undrawn}
use Rattle.text_block_renderer.proofs.laws.appended.a_vertical_row_is_its_cells_and_borders.Goals as goal

pub returns : goal.returns
returns g c = record { drawn = row_drawn; without_borders = row_undrawn }
