use Rattle.tbr_rows.proofs.Common.{arith, first_of}
use Rattle.tbr_rows.proofs.CellLines.{gap_of_text}
use Rattle.tbr_rows.proofs.cell_lines.first_in_gap.Goals as goal

pub returns-clause-text : goal.returns-clause-text
returns-clause-text g c = grind (arith, first_of, gap_of_text, c.if-len-eq0.false, c.len.ensures, c.new-line.ensures, c.in_ok-move_line.ensures.items, c.in_ok-move_line.ensures.merged)
