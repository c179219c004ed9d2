use Rattle.column_widths.proofs.AnyWidths.{all_within, one_each}
use Rattle.column_widths.proofs.laws.widths_are_within_needs.Goals as goal

pub returns-clause-each : goal.returns-clause-each
returns-clause-each c = all_within

pub returns-clause-count : goal.returns-clause-count
returns-clause-count c = one_each
