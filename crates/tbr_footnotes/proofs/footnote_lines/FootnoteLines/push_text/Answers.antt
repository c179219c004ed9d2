use Rattle.std.proofs.Common.{chars, map-id, sym, ◌∙◌}
use Rattle.std.proofs.lemmas.Iterator.{YieldsList-from_chars}
use Rattle.std.proofs.lemmas.Iterator.Consumers.{YieldsList-end}
use Rattle.tbr_footnotes.proofs.CutLines.{text_goes_on, text_ends}
use Rattle.tbr_footnotes.proofs.footnote_lines.FootnoteLines.push_text.Goals as goal

pub loop-c-preserved : goal.loop-c-preserved
loop-c-preserved g c =
    text_goes_on g.W.CharWidth.columns c.args.self.now c.loop-c.self c.push.new.self c.args.tag.now c.loop-c.yielded
    c.in-Some.c c.unbroken.result c.loop-c.invariant c.unbroken.ensures c.in_ok-push.ensures

pub returns : goal.returns
returns g c =
    let f = g.D.Annotation.Tag.meaning in
    let end = YieldsList-end (YieldsList-from_chars c.args.text.now c.utf8.text cc) c.loop-c.yielded _ c.loop-c.yielded_by _ _ c.in-None.is c.next.ensures.steps in
    text_ends g.W.CharWidth.columns c.args.self.now c.loop-c.self c.args.tag.now c.loop-c.yielded (chars c.args.text.now) c.loop-c.invariant (sym (map-id c.loop-c.yielded) ∙ end.0)
