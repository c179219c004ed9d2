use Rattle.column_widths.proofs.AnyWidths.{lines_fit}
use Rattle.column_widths.proofs.laws.widest_lines_fit.Goals as goal

pub returns : goal.returns
returns c = lines_fit
