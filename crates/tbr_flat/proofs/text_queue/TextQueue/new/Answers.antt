use Rattle.tbr_flat.proofs.TextBytes.{nothing_after}
use Rattle.tbr_flat.proofs.text_queue.TextQueue.new.Goals as goal

pub invariant_of-result : goal.invariant_of-result
invariant_of-result c = (nothing_after _ c.new.ensures.bytes).parts

pub returns : goal.returns
returns c = (nothing_after _ c.new.ensures.bytes).seen
