use Rattle.text_block_renderer.proofs.WaitingMarkers.{acts_wait, acts_wait_all, calls_wait, calls_wait_all}
use Rattle.text_block_renderer.proofs.laws.waiting_markers_begin_the_next_text.Goals as goal

pub returns : goal.returns
returns g c = record { acts = acts_wait; undrawn = acts_wait_all; calls = calls_wait; undrawn_calls = calls_wait_all }
