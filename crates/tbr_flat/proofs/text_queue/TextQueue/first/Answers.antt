use Rattle.tbr_flat.proofs.Common.{ap, ◌∙◌, sym}
use Rattle.std.specs.Str.{chars}
use Rattle.tbr_flat.proofs.TextBytes.{first_letter}
use Rattle.tbr_flat.proofs.text_queue.TextQueue.first.Goals as goal

pub returns : goal.returns
returns c = first_letter (chars c.chars.result.rest.now) c.args.self.now c.next.result c.next.ensures.steps.2 (sym c.as_str.ensures ∙ ap chars (sym c.chars.ensures.rest))
