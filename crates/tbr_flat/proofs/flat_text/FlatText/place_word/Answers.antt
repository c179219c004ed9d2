use Rattle.tbr_flat.proofs.Common.{rules, length-append}
use Rattle.tbr_flat.proofs.MarkedItems.{marked_count, marked_followed}
use Rattle.tbr_flat.proofs.MarkerPlaces.{covered_followed}
use Rattle.tbr_flat.proofs.flat_text.FlatText.place_word.Goals as goal

pub invariant_of-self-in_default : goal.invariant_of-self-in_default
invariant_of-self-in_default g c = search (rules, covered_followed, length-append, c.in_default.ensures.ok, c.in_ok-place_word.ensures.ok, c.self.invariant.0, c.self.invariant.1)

pub returns-clause-markers : goal.returns-clause-markers
returns-clause-markers g c =
    rw (← c.self.view_is, marked_count c.self.inside.text.word c.self.inside.word.markers c.holds_characters.ensures.word) c.len-markers.ensures

pub returns-clause-placed : goal.returns-clause-placed
returns-clause-placed g c = search (rules, marked_followed, c.in_default.ensures.ok, c.self.view_is, c.in_ok-place_word.ensures.ok, c.self.invariant.0)
