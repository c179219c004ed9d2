use Rattle.tbr_flat.proofs.Common.{drop, length}
use Rattle.tbr_flat.proofs.TrimmedCharacters.{all_glyphs}
use Rattle.tbr_flat.proofs.characters.Characters.holds_characters.Goals as goal

pub returns-clause-placed : goal.returns-clause-placed
returns-clause-placed g c = rw (← c.self.view_is) (all_glyphs c.self.inside.placed c.self.inside.tags)

pub returns-clause-word : goal.returns-clause-word
returns-clause-word g c = rw (← c.self.view_is) (all_glyphs c.self.inside.word (drop (length c.self.inside.placed) c.self.inside.tags))
