use Rattle.tbr_flat.proofs.Common.{rules, encodes-chars}
use Rattle.tbr_flat.proofs.TextBytes.{bytes_each, left_count}
use Rattle.tbr_flat.proofs.text_queue.TextQueue.front_bytes.Goals as goal

pub returns-then-left-self : goal.returns-then-left-self
returns-then-left-self c = search (rules, encodes-chars, bytes_each, left_count, c.if-left-self.true, c.self.invariant, c.self.view_is, c.requires)
