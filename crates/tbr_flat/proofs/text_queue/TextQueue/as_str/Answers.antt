use Rattle.tbr_flat.proofs.TextBytes.{left_boundary}
use Rattle.tbr_flat.proofs.text_queue.TextQueue.as_str.Goals as goal

pub range_from-requires : goal.range_from-requires
range_from-requires c = rw c.as_str.ensures.value (λ _. left_boundary _ _ _ _ c.self.invariant c.self.view_is)
