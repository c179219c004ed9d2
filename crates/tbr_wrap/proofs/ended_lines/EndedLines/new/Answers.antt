use Rattle.tbr_wrap.proofs.lines.CutLines.{cut_lines, are_cut}
use Rattle.tbr_wrap.proofs.ended_lines.EndedLines.new.Goals as goal

pub invariant_of-result : goal.invariant_of-result
invariant_of-result g c = (c.requires.counted, are_cut _ _ c.requires.held.0 c.requires.held.1)

pub returns : goal.returns
returns g c = λ lines h. cut_lines _ _ lines h
