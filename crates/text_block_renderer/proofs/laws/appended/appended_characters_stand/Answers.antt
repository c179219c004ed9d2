use Rattle.text_block_renderer.proofs.LaidTexts.{characters_after, characters_indented}
use Rattle.text_block_renderer.proofs.laws.appended.appended_characters_stand.Goals as goal

pub returns : goal.returns
returns g c = record { prefixed = characters_after; indented = characters_indented }
