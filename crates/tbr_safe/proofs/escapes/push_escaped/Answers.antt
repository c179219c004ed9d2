use Rattle.std.proofs.Common.{map-id, ap, sym, ◌∙◌, ◌++◌}
use Rattle.std.proofs.lemmas.Iterator.{YieldsList-from_chars}
use Rattle.std.proofs.lemmas.Iterator.Consumers.{YieldsList-end}
use Rattle.tbr_tagged.specs.View.{chars_of}
use Rattle.tbr_safe.specs.Escaped.{escaped}
use Rattle.tbr_safe.proofs.escapes.push_escaped.Goals as goal

pub returns : goal.returns
returns c =
    let end = YieldsList-end (YieldsList-from_chars c.args.text.now c.utf8.text cc) c.loop-c.yielded _ c.loop-c.yielded_by _ _ c.in-None.is c.next.ensures.steps in
    c.loop-c.invariant ∙ ap (λ cs. chars_of c.args.safe.now ++ escaped cs) (sym (map-id c.loop-c.yielded) ∙ end.0)
