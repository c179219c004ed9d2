use Rattle.tbr_flat.proofs.Common.{rules}
use Rattle.tbr_flat.proofs.TaggedCharacters.{flat_placed_text}
use Rattle.tbr_flat.proofs.characters.Characters.place_text.Goals as goal

pub returns : goal.returns
returns g c = search (rules, flat_placed_text, c.in_ok-push.ensures.ok, c.self.view_is, c.requires.none, c.in_default.ensures.ok, c.self.invariant, c.requires.count)
