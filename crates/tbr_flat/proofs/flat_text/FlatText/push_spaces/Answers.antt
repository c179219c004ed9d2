use Rattle.tbr_flat.proofs.Common.{rules}
use Rattle.tbr_flat.proofs.MarkedItems.{marked_more, same_marked}
use Rattle.tbr_flat.proofs.flat_text.FlatText.push_spaces.Goals as goal

pub returns-clause-placed : goal.returns-clause-placed
returns-clause-placed g c = search (rules, marked_more, c.in_default.ensures.placed, c.self.invariant.0, c.self.view_is, c.in_ok-add_characters.ensures.ok)

pub returns-clause-word : goal.returns-clause-word
returns-clause-word g c =
    rw (← c.self.view_is) (same_marked g.T.PartialEq.eq g.met.T.Eq.laws c.push_spaces.new.self.word c.self.inside.text.word c.self.inside.word.markers c.in_default.ensures.word)
