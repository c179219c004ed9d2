use Rattle.tbr_flat.proofs.Common.{◌∙◌, sym}
use Rattle.tbr_flat.proofs.TaggedCharacters.{flat_word_len}
use Rattle.tbr_flat.proofs.characters.Characters.word_len.Goals as goal

pub returns : goal.returns
returns g c = rw (← c.self.view_is) (c.len.ensures.len ∙ sym (flat_word_len c.self.inside.placed c.self.inside.word c.self.inside.tags c.self.invariant))
