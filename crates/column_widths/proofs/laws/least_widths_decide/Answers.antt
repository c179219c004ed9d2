use Rattle.column_widths.proofs.AnyWidths.{least_decides}
use Rattle.column_widths.proofs.laws.least_widths_decide.Goals as goal

pub returns : goal.returns
returns c = least_decides
