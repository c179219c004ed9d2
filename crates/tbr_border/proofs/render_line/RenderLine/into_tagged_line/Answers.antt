use Rattle.tbr_border.proofs.Common.{items_of, same_items}
use Rattle.tbr_border.proofs.render_line.RenderLine.into_tagged_line.Goals as goal

pub returns-in-Text-clause-items : goal.returns-in-Text-clause-items
returns-in-Text-clause-items g c = rw c.in-Text.is (same_items g.T.PartialEq.eq g.met.T.Eq.laws (items_of c.in-Text.line))
