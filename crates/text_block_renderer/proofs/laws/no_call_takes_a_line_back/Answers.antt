use Rattle.text_block_renderer.proofs.AddedLines.{steps_grow}
use Rattle.text_block_renderer.proofs.laws.no_call_takes_a_line_back.Goals as goal

pub returns : goal.returns
returns g c = steps_grow
