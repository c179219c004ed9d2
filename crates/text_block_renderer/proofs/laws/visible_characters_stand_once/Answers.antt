use Rattle.text_block_renderer.proofs.VisibleCharacters.{acts_show, new_acts_show, acts_show_all, calls_show, calls_show_all}
use Rattle.text_block_renderer.proofs.laws.visible_characters_stand_once.Goals as goal

pub returns : goal.returns
returns g c = record { acts = acts_show; from_new = new_acts_show; undrawn = acts_show_all; calls = calls_show; undrawn_calls = calls_show_all }
