use Rattle.tbr_flat.proofs.Common.{rules}
use Rattle.tbr_flat.proofs.TextBytes.{spaces_joined, left_short}
use Rattle.tbr_flat.proofs.text_queue.TextQueue.push_spaces.Goals as goal

pub overflow_add-self : goal.overflow_add-self
overflow_add-self c = search (rules, spaces_joined, left_short, c.self.invariant, c.self.view_is, c.in_ok-append_spaces.ensures.ok)

pub invariant_of-self-2 : goal.invariant_of-self-2
invariant_of-self-2 c =
    (spaces_joined _ _ _ _ c.self.invariant c.self.view_is _ c.args.count c.in_ok-append_spaces.ensures.ok).parts

pub returns-clause-ok : goal.returns-clause-ok
returns-clause-ok c =
    (spaces_joined _ _ _ _ c.self.invariant c.self.view_is _ c.args.count c.in_ok-append_spaces.ensures.ok).seen
