use Rattle.column_widths.proofs.AnyWidths.{no_less}
use Rattle.column_widths.proofs.laws.wider_needs_get_no_less.Goals as goal

pub returns : goal.returns
returns c = no_less
