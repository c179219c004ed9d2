use Rattle.tbr_border.proofs.Common.{rules}
use Rattle.tbr_border.proofs.JoinedCells.{set_changed}
use Rattle.tbr_border.proofs.border.join_at.Goals as goal

pub returns-clause-ok : goal.returns-clause-ok
returns-clause-ok c = search (rules, set_changed, c.in-Some.ensures, c.in_ok-stretch.ensures.ok, c.in_ok-stretch.ensures.len, c.join.ensures, c.index_mut.ensures.value)
