use Rattle.tbr_renderer.proofs.Common.{ap, sym, ◌∙◌, map-id, chars, YieldsList-end, chars-nil, struck}
use Rattle.std.proofs.lemmas.Iterator.{YieldsList-from_chars}
use Rattle.tbr_renderer.proofs.sub.texts.struck_text.Goals as goal

pub loop-c-init : goal.loop-c-init
loop-c-init g c = ap chars c.new-s.ensures.bytes ∙ chars-nil

pub returns : goal.returns
returns g c =
    let end = YieldsList-end (YieldsList-from_chars c.args.text.now c.utf8.text cc) c.loop-c.yielded _ c.loop-c.yielded_by _ _ c.in-None.is c.next.ensures.steps in
    c.loop-c.invariant ∙ ap (struck g.W.CharWidth.columns c.args.depth) (sym (map-id c.loop-c.yielded) ∙ end.0)
