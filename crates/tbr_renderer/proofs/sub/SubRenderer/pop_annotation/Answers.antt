use Rattle.tbr_renderer.proofs.Common.{rules}
use Rattle.tbr_renderer.proofs.sub.SubRenderer.pop_annotation.Goals as goal

pub returns : goal.returns
returns g c = search (rules, c.pop.ensures, c.self.view_is)
