use Rattle.tbr_flat.proofs.TaggedCharacters.{flat_word_first}
use Rattle.tbr_flat.proofs.characters.Characters.first.Goals as goal

pub returns : goal.returns
returns g c = rw (← c.self.view_is) (flat_word_first c.self.inside.placed c.self.inside.word c.self.inside.tags c.self.invariant c.first.result c.first.ensures)
