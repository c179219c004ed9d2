use Rattle.column_widths.proofs.AnyWidths.{columns_seen}
use Rattle.column_widths.proofs.laws.columns_are_seen.Goals as goal

pub returns : goal.returns
returns c = columns_seen
