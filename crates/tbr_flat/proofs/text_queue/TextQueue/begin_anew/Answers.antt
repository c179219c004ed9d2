use Rattle.tbr_flat.proofs.TextBytes.{left_boundary}
use Rattle.tbr_flat.proofs.text_queue.TextQueue.begin_anew.Goals as goal

pub replace_range-requires-clause-end_boundary : goal.replace_range-requires-clause-end_boundary
replace_range-requires-clause-end_boundary c = let k = left_boundary _ _ _ _ c.self.invariant c.self.view_is in (k.0, λ some. k.1)
