use Rattle.tbr_border.proofs.Common.{rules, length-map}
use Rattle.tbr_border.proofs.JoinedCells.{set_changed, changed_past}
use Rattle.tbr_border.proofs.border.chop_left_at.Goals as goal

pub returns-in-Some-clause-cells : goal.returns-in-Some-clause-cells
returns-in-Some-clause-cells c = search (rules, set_changed, c.in-Some.ensures.item.3.0, c.chop_left.ensures, c.in-Some.ensures.item.1)

pub returns-in_default-clause-cells : goal.returns-in_default-clause-cells
returns-in_default-clause-cells c = search (rules, length-map, changed_past, c.in_default.ensures.item.3)
