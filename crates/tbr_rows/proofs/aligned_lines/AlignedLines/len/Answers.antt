use Rattle.tbr_rows.proofs.Common.{rules}
use Rattle.tbr_rows.proofs.AlignedLines.{length_aligned}
use Rattle.tbr_rows.proofs.aligned_lines.AlignedLines.len.Goals as goal

pub returns : goal.returns
returns g c = search (rules, length_aligned, c.len.ensures, c.self.invariant.0, c.self.invariant.1, c.self.view_is)
