use Rattle.text_block_renderer.proofs.Common.{pointwise}
use Rattle.tbr_renderer.proofs.RowsOfCells.{row_laid, settings_stay}
use Rattle.text_block_renderer.proofs.laws.rows.a_row_changes_no_settings.Goals as goal

pub returns : goal.returns
returns g c = λ columns decoration collapses cells r s h. settings_stay columns r s (row_laid (pointwise decoration.same) columns collapses cells r s h)
