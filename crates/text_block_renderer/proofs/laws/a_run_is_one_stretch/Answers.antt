use Rattle.text_block_renderer.proofs.RunStretches.{stands_for_good}
use Rattle.text_block_renderer.proofs.laws.a_run_is_one_stretch.Goals as goal

pub returns : goal.returns
returns g c = stands_for_good
