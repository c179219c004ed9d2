use Rattle.tbr_show.proofs.Common.{map-id, ap, sym, ◌∙◌, ◌++◌, YieldsList-from_chars, YieldsList-end, chars_of, flat_map, escaped}
use Rattle.tbr_show.proofs.ndjson.push_escaped.Goals as goal

pub returns : goal.returns
returns c =
    let end = YieldsList-end (YieldsList-from_chars c.args.more.now c.utf8.more cc) c.loop-c.yielded _ c.loop-c.yielded_by _ _ c.in-None.is c.next.ensures.steps in
    c.loop-c.invariant ∙ ap (λ cs. chars_of c.args.text.now ++ flat_map escaped cs) (sym (map-id c.loop-c.yielded) ∙ end.0)
