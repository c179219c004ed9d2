use Rattle.tbr_flat.proofs.Common.{◌-◌, length, get_or, ap, ◌∙◌, arith}
use Rattle.tbr_flat.proofs.TextEnds.{end_spaces, more_spaces}
use Rattle.tbr_flat.proofs.text_queue.spaces_at_end.Goals as goal

pub returns-then-bytes-count-ne32-clause-spaces : goal.returns-then-bytes-count-ne32-clause-spaces
returns-then-bytes-count-ne32-clause-spaces c = end_spaces c.args.text.now c.loop-count.count c.utf8.text (omega arith) c.loop-count.invariant.ends

pub returns-then-bytes-count-ne32-clause-all : goal.returns-then-bytes-count-ne32-clause-all
returns-then-bytes-count-ne32-clause-all c = λ less front e.
    c.if-bytes-count-ne32.true (ap (λ bs. get_or bs (length bs - 1 - c.loop-count.count) 0) c.as_bytes-bytes.ensures.value ∙ (more_spaces c.args.text.now front c.loop-count.count c.utf8.text e).1)

pub returns-clause-spaces : goal.returns-clause-spaces
returns-clause-spaces c = end_spaces c.args.text.now c.loop-count.count c.utf8.text (omega arith) c.loop-count.invariant.ends

pub returns-clause-all : goal.returns-clause-all
returns-clause-all c = λ less front e.
    let more = (more_spaces c.args.text.now front c.loop-count.count c.utf8.text e).0 in omega (arith, more, less)
