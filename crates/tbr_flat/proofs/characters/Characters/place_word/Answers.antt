use Rattle.tbr_flat.proofs.TaggedCharacters.{flat_word}
use Rattle.tbr_flat.proofs.characters.Characters.place_word.Goals as goal

pub returns-clause-ok : goal.returns-clause-ok
returns-clause-ok g c =
    let e = c.in_ok-append.ensures.ok in rw (← c.self.view_is, e.0, e.1) (flat_word c.self.inside.placed c.self.inside.word c.self.inside.tags)
