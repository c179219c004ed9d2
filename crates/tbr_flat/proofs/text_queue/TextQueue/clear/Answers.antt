use Rattle.tbr_flat.proofs.TextBytes.{nothing_after}
use Rattle.tbr_flat.proofs.text_queue.TextQueue.clear.Goals as goal

pub invariant_of-self : goal.invariant_of-self
invariant_of-self c = (nothing_after _ c.clear.ensures.bytes).parts

pub returns : goal.returns
returns c = (nothing_after _ c.clear.ensures.bytes).seen
