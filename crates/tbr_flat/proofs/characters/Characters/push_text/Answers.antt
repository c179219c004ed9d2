use Rattle.tbr_flat.proofs.Common.{rules}
use Rattle.tbr_flat.proofs.TaggedCharacters.{flat_push}
use Rattle.tbr_flat.proofs.characters.Characters.push_text.Goals as goal

pub returns : goal.returns
returns g c = search (rules, flat_push, c.in_ok-push.ensures.ok, c.self.view_is, c.in_default.ensures.ok, c.self.invariant, c.requires.count)
