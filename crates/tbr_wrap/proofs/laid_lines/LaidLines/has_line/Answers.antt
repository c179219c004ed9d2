use Rattle.tbr_wrap.proofs.Common.{nat_lt, ◌∙◌}
use Rattle.tbr_wrap.proofs.lines.CountedMarkers.{has_from_counts}
use Rattle.tbr_wrap.proofs.laid_lines.LaidLines.has_line.Goals as goal

pub returns : goal.returns
returns g c = λ before l h. (λ i. nat_lt (h.markers i) (h.len i)) ∙ has_from_counts l.line
