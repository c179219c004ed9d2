use Rattle.tbr_flat.proofs.Common.{◌∙◌, arith}
use Rattle.tbr_flat.proofs.TextBytes.{forgotten}
use Rattle.tbr_flat.proofs.text_queue.TextQueue.forget.Goals as goal

pub overflow_add-self : goal.overflow_add-self
overflow_add-self c =
    let left = forgotten _ _ _ _ c.self.invariant c.self.view_is c.args.count c.args.bytes c.requires.bytes in
    let text = c.self.inside.text.bytes in omega (arith, left.parts.within, text.ok.0, text.ok.1, text.small)

pub invariant_of-self : goal.invariant_of-self
invariant_of-self c = (forgotten _ _ _ _ c.self.invariant c.self.view_is c.args.count c.args.bytes c.requires.bytes).parts

pub returns : goal.returns
returns c = c.give_back.ensures ∙ (forgotten _ _ _ _ c.self.invariant c.self.view_is c.args.count c.args.bytes c.requires.bytes).seen
