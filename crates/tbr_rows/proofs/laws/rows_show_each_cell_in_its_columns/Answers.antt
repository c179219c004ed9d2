use Rattle.tbr_rows.proofs.CellsOfRows.{shown_over}
use Rattle.tbr_rows.proofs.CellsSeated.{own_cell_stands, hanging_cell_stands}
use Rattle.tbr_rows.proofs.laws.rows_show_each_cell_in_its_columns.Goals as goal

pub returns : goal.returns
returns g c = record { shown = shown_over; own = own_cell_stands; hanging = hanging_cell_stands }
