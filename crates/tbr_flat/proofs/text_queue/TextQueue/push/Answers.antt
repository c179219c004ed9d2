use Rattle.tbr_flat.proofs.Common.{rules}
use Rattle.tbr_flat.proofs.TextBytes.{char_joined, left_short}
use Rattle.tbr_flat.proofs.text_queue.TextQueue.push.Goals as goal

pub overflow_add-self : goal.overflow_add-self
overflow_add-self c = search (rules, char_joined, left_short, c.self.invariant, c.self.view_is, c.in_ok-push.ensures.bytes)

pub invariant_of-self-2 : goal.invariant_of-self-2
invariant_of-self-2 c = (char_joined _ _ _ _ c.self.invariant c.self.view_is _ c.args.c c.in_ok-push.ensures.bytes c.ranges.c.0).parts

pub returns-clause-ok : goal.returns-clause-ok
returns-clause-ok c = (char_joined _ _ _ _ c.self.invariant c.self.view_is _ c.args.c c.in_ok-push.ensures.bytes c.ranges.c.0).seen
