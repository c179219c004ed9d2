use Rattle.tbr_flat.proofs.Common.{ap, sym, ◌∙◌, arith, item_characters}
use Rattle.tbr_flat.proofs.TaggedCharacters.{glyphs_characters}
use Rattle.tbr_flat.proofs.characters.Characters.placed_text.Goals as goal

pub returns : goal.returns
returns g c = c.as_str.ensures ∙ sym (glyphs_characters c.self.inside.placed c.self.inside.tags (omega (arith, c.self.invariant))) ∙ ap (λ f. item_characters f.placed) c.self.view_is
