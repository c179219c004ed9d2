use Rattle.tbr_tagged.specs.UnicodeColumns.{unicode_columns, unicode_columns_drawn}
use Rattle.text_block_renderer.proofs.ControlCharacters.{controls_have_none, none_is_control}
use Rattle.script_laws.proofs.Controls.{none_shown}
use Rattle.script_laws.proofs.laws.no_control_character_is_given.Goals as goal

pub returns : goal.returns
returns c = record {
  given = λ columns draws controls script text h. none_shown columns draws controls script text h;
  unicode = λ script text h. none_shown unicode_columns unicode_columns_drawn (λ n. (none_is_control n, controls_have_none n)) script text h;
}
