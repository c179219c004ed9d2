use Rattle.tbr_flat.proofs.Common.{rules}
use Rattle.tbr_flat.proofs.MarkedItems.{marked_more}
use Rattle.tbr_flat.proofs.flat_text.FlatText.push_text.Goals as goal

pub returns : goal.returns
returns g c = search (rules, marked_more, c.in_default.ensures, c.self.invariant.1, c.self.view_is, c.in_ok-add_characters.ensures.ok)
