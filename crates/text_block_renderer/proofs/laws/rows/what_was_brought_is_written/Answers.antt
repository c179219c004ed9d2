use Rattle.text_block_renderer.proofs.Common.{[], refl}
use Rattle.text_block_renderer.proofs.WrittenEntries.{acts_write}
use Rattle.text_block_renderer.proofs.laws.rows.what_was_brought_is_written.Goals as goal

pub returns : goal.returns
returns g c = record { acts = acts_write; new = λ columns width options decorator. record { ended = []; whole = refl; shown = []; order = tt; stand = tt } }
