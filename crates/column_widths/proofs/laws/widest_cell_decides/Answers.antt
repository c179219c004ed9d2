use Rattle.column_widths.proofs.Alone.{least_alone, greatest_alone}
use Rattle.column_widths.proofs.laws.widest_cell_decides.Goals as goal

pub returns-clause-least : goal.returns-clause-least
returns-clause-least c = least_alone

pub returns-clause-greatest : goal.returns-clause-greatest
returns-clause-greatest c = greatest_alone
