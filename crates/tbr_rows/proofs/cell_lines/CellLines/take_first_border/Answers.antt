use Rattle.tbr_rows.proofs.Common.{rules}
use Rattle.tbr_rows.proofs.CellLines.{no_first, all_after}
use Rattle.tbr_rows.proofs.cell_lines.CellLines.take_first_border.Goals as goal

pub returns-in_default-clause-border : goal.returns-in_default-clause-border
returns-in_default-clause-border g c = search (rules, no_first, c.self.view_is, c.in_default.is)

pub returns-in_default-clause-rest : goal.returns-in_default-clause-rest
returns-in_default-clause-rest g c = search (rules, all_after, c.in_default.is, c.self.view_is)
