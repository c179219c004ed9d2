use Rattle.tbr_renderer.proofs.Common.{rules}
use Rattle.tbr_renderer.proofs.Fields.{block_opens}
use Rattle.tbr_renderer.proofs.JoinedTexts.{block_empty}
use Rattle.tbr_renderer.proofs.sub.SubRenderer.has_empty_block.Goals as goal

pub returns-in-Some : goal.returns-in-Some
returns-in-Some g c = search (rules, block_empty, block_opens, c.self.invariant, c.self.view_is, c.requires, c.in-Some.is, c.is_empty.ensures)
