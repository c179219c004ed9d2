use Rattle.tbr_flat.proofs.Common.{rules}
use Rattle.tbr_flat.proofs.WalkedItems.{marked_given}
use Rattle.tbr_flat.proofs.flat_text.FlatText.items.Goals as goal

pub returns : goal.returns
returns g c = search (rules, marked_given, c.holds_characters.ensures.placed, c.self.invariant.0, c.new.ensures, c.placed_text.ensures, c.iter.ensures, c.self.view_is)
