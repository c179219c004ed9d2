use Rattle.tbr_tables.proofs.Widths.{border_width}
use Rattle.tbr_tables.proofs.laws.borders_take_the_width.Goals as goal

pub returns : goal.returns
returns c = border_width
