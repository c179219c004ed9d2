use Rattle.text_block_renderer.proofs.RunStretches.{brings_end}
use Rattle.text_block_renderer.proofs.laws.each_open_run_ends_as_one_stretch.Goals as goal

pub returns : goal.returns
returns g c = brings_end
