use Rattle.tbr_flat.proofs.Common.{rules}
use Rattle.tbr_flat.proofs.TaggedCharacters.{space_placed, space_word}
use Rattle.tbr_flat.proofs.characters.Characters.push_spaces.Goals as goal

pub returns-clause-placed : goal.returns-clause-placed
returns-clause-placed g c = search (rules, space_placed, c.in_default.ensures, c.self.view_is, c.in_default-push_spaces.ensures.ok, c.self.invariant, c.len.ensures.len)

pub returns-clause-word : goal.returns-clause-word
returns-clause-word g c = search (rules, space_word, c.in_default.ensures, c.self.view_is, c.in_default-push_spaces.ensures.ok, c.self.invariant, c.len.ensures.len)
