use Rattle.tbr_renderer.proofs.Common.{rules}
use Rattle.tbr_renderer.proofs.Fields.{block_opens}
use Rattle.tbr_renderer.proofs.JoinedTexts.{line_start}
use Rattle.tbr_renderer.proofs.sub.SubRenderer.is_at_line_start.Goals as goal

pub returns-in-Some : goal.returns-in-Some
returns-in-Some g c = search (rules, line_start, block_opens, c.self.invariant, c.self.view_is, c.requires, c.in-Some.is, c.at_line_start.ensures)
