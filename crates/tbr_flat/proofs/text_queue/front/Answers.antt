use Rattle.tbr_flat.proofs.Common.{take, chars, ap, ◌∙◌, refl, arith}
use Rattle.tbr_flat.proofs.TextBytes.{front_boundary, front_letters}
use Rattle.tbr_flat.proofs.text_queue.front.Goals as goal

pub range-requires-clause-end_boundary : goal.range-requires-clause-end_boundary
range-requires-clause-end_boundary c = front_boundary _ _ c.args.count _ c.utf8.text refl c.requires

pub returns : goal.returns
returns c = ap chars (c.range.ensures.value ∙ ap (λ m. take m c.args.text.now) (omega arith)) ∙ front_letters _ _ c.args.count c.args.bytes c.utf8.text refl c.requires
