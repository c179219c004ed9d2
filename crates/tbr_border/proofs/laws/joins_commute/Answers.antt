use Rattle.tbr_border.proofs.JoinedCells.{joined_at_both}
use Rattle.tbr_border.proofs.laws.joins_commute.Goals as goal

pub returns-clause-border : goal.returns-clause-border
returns-clause-border c = joined_at_both
