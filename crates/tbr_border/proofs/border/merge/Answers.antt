use Rattle.tbr_border.proofs.Common.{lt-ltb, true, false, rules}
use Rattle.tbr_border.proofs.JoinedCells.{under_all_none, any_by_end}
use Rattle.tbr_border.proofs.border.merge.Goals as goal

pub returns-then-count-eq0-clause-ok : goal.returns-then-count-eq0-clause-ok
returns-then-count-eq0-clause-ok c = search (rules, any_by_end, under_all_none, c.joins_end-count.ensures, c.if-count-eq0.true)

pub returns-clause-ok : goal.returns-clause-ok
returns-clause-ok c = search (rules, any_by_end, lt-ltb, c.joins_end-count.ensures, c.if-count-eq0.false, c.in-Some.ensures, c.in_ok-stretch.ensures.ok, c.join_under.ensures.cells)
