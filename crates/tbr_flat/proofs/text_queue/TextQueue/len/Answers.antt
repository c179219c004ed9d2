use Rattle.tbr_flat.proofs.Common.{arith}
use Rattle.tbr_flat.proofs.TextBytes.{left_short}
use Rattle.tbr_flat.proofs.text_queue.TextQueue.len.Goals as goal

pub returns-clause-small : goal.returns-clause-small
returns-clause-small c = let text = c.self.inside.text.bytes in omega (arith, left_short _ _ _ c.self.invariant, text.ok.0, text.ok.1, text.small)
