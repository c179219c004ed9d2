use Rattle.text_block_renderer.proofs.WaitingMarkers.{flushes_stand}
use Rattle.text_block_renderer.proofs.laws.what_a_flush_makes_stand.Goals as goal

pub returns : goal.returns
returns g c = flushes_stand
