use Rattle.tbr_flat.proofs.Common.{arith}
use Rattle.tbr_flat.proofs.TextBytes.{joined, left_short}
use Rattle.tbr_flat.proofs.text_queue.TextQueue.push_str.Goals as goal

pub overflow_add-self : goal.overflow_add-self
overflow_add-self c =
    let s = joined _ _ _ _ c.self.invariant c.self.view_is _ c.args.text.now c.args.count c.in_ok-push_str.ensures.bytes c.utf8.text c.requires in
    let text = c.push_str.new.self.bytes in omega (arith, left_short _ _ _ s.parts, text.ok.0, text.ok.1, text.small)

pub invariant_of-self-2 : goal.invariant_of-self-2
invariant_of-self-2 c = (joined _ _ _ _ c.self.invariant c.self.view_is _ c.args.text.now c.args.count c.in_ok-push_str.ensures.bytes c.utf8.text c.requires).parts

pub returns-clause-ok : goal.returns-clause-ok
returns-clause-ok c = (joined _ _ _ _ c.self.invariant c.self.view_is _ c.args.text.now c.args.count c.in_ok-push_str.ensures.bytes c.utf8.text c.requires).seen
