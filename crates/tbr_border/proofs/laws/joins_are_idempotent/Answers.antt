use Rattle.tbr_border.proofs.JoinedCells.{joined_at_twice}
use Rattle.tbr_border.proofs.laws.joins_are_idempotent.Goals as goal

pub returns-clause-border : goal.returns-clause-border
returns-clause-border c = joined_at_twice
