use Rattle.tbr_renderer.proofs.Common.{rules}
use Rattle.tbr_renderer.proofs.sub.SubRenderer.into_string.Goals as goal

pub returns-clause-text : goal.returns-clause-text
returns-clause-text g c = search (rules, c.in_ok-into_kept.ensures.lines, c.in_ok-into_text.ensures)
