use Rattle.text_block_renderer.proofs.VisibleCharacters.{all_handed_out, handed_out_less}
use Rattle.text_block_renderer.proofs.laws.appended.handed_out_lines_have_all_characters.Goals as goal

pub returns : goal.returns
returns g c = record { lines = handed_out_less; undrawn = all_handed_out }
