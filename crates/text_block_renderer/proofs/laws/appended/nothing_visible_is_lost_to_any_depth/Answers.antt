use Rattle.text_block_renderer.proofs.TakenLines.{all_within, brought_within}
use Rattle.text_block_renderer.proofs.laws.appended.nothing_visible_is_lost_to_any_depth.Goals as goal

pub returns : goal.returns
returns g c = record { lines = all_within; brought = brought_within }
