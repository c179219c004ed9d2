use Rattle.tbr_tables.proofs.Widths.{rows_width}
use Rattle.tbr_tables.proofs.laws.rows_take_the_width.Goals as goal

pub returns : goal.returns
returns c = rows_width
