use Rattle.script_laws.proofs.KeptTexts.{started_keeps_all, line_keeps_all, text_keeps}
use Rattle.script_laws.proofs.OneRowCells.{started_none, lines_none}
use Rattle.script_laws.proofs.laws.no_visible_character_of_a_script_is_lost.Goals as goal

pub returns : goal.returns
returns g c = record { first = started_keeps_all; line = line_keeps_all; text = text_keeps; begins = started_none; one_row = lines_none }
