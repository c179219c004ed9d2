use Rattle.text_block_renderer.proofs.BroughtEntries.{new_stands, acts_stand, new_acts_stand, acts_stand_all}
use Rattle.text_block_renderer.proofs.laws.what_was_brought_stands.Goals as goal

pub returns : goal.returns
returns g c = record { acts = acts_stand; from_new = new_acts_stand; undrawn = acts_stand_all; new = new_stands }
