use Rattle.tbr_flat.proofs.Common.{◌∙◌, arith}
use Rattle.tbr_flat.proofs.TaggedCharacters.{flat_front, flat_word_len}
use Rattle.tbr_flat.proofs.TrimmedCharacters.{front_columns}
use Rattle.tbr_flat.proofs.characters.Characters.place_fitting.Goals as goal

pub returns-clause-within : goal.returns-clause-within
returns-clause-within g c =
    rw (← c.self.view_is) (omega (arith, c.in_ok-count.ensures.within, flat_word_len c.self.inside.placed c.self.inside.word c.self.inside.tags c.self.invariant))

pub returns-clause-columns : goal.returns-clause-columns
returns-clause-columns g c =
    rw (← c.self.view_is) (c.in_ok-count.ensures.columns ∙ front_columns g.W.CharWidth.columns c.self.inside.placed c.self.inside.word c.self.inside.tags c.in_ok-count.count c.self.invariant)

pub returns-clause-placed : goal.returns-clause-placed
returns-clause-placed g c =
    rw (← c.self.view_is, c.in_ok-count.ensures.text, c.in_ok-count.ensures.rest)
    (flat_front c.self.inside.placed c.self.inside.word c.self.inside.tags c.in_ok-count.count
    c.in_ok-count.ensures.within)
