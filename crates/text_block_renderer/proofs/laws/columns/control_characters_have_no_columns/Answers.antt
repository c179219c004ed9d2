use Rattle.text_block_renderer.proofs.ControlCharacters.{controls_have_none, none_is_control}
use Rattle.text_block_renderer.proofs.laws.columns.control_characters_have_no_columns.Goals as goal

pub returns : goal.returns
returns c = λ n. (none_is_control n, controls_have_none n)
