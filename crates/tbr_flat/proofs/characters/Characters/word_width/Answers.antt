use Rattle.tbr_flat.proofs.TrimmedCharacters.{word_columns}
use Rattle.tbr_flat.proofs.characters.Characters.word_width.Goals as goal

pub returns : goal.returns
returns g c =
    rw (← c.self.view_is, ← word_columns g.W.CharWidth.columns c.self.inside.placed c.self.inside.word c.self.inside.tags c.self.invariant) c.width.ensures
