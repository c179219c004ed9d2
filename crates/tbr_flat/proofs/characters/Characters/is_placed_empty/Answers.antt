use Rattle.tbr_flat.proofs.TaggedCharacters.{placed_none}
use Rattle.tbr_flat.proofs.characters.Characters.is_placed_empty.Goals as goal

pub returns : goal.returns
returns g c = rw (← c.self.view_is) (placed_none c.is_empty.result c.self.inside.placed c.self.inside.word c.self.inside.tags c.self.invariant c.is_empty.ensures)
