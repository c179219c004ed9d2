use Rattle.tbr_renderer.proofs.Common.{◌≡◌, ◌∷◌, ◌++◌, [], List, ap, sym, ◌∙◌, refl, subst, append-nil, chars, Each, into_iter_items, nil_from_length, same_annotations, IsMergedText}
use Rattle.tbr_renderer.proofs.Common.{items_of, text_items, items_left, items_taken, texts_of, prefixed, with_prefixed, Renderer}
use Rattle.tbr_renderer.proofs.AppendedLines.{seen, after_more, after_all, no_line}
use Rattle.tbr_renderer.proofs.sub.SubRenderer.add_each_after.Goals as goal

pub loop-prefix-preserved : goal.loop-prefix-preserved
loop-prefix-preserved g c =
    let inv = c.loop-prefix.invariant in
    let first = c.in-Some-next.ensures.items in
    let now = c.loop-prefix.self in
    let line = c.in_ok-add_line.ensures.line in
    record {
      after = after_more g.W.CharWidth.columns c.args.self.now g.P.AsStr.text c.args.lines.items c.loop-prefix.yielded
          (into_iter_items c.loop-prefix.lines) (into_iter_items c.next-in-loop-prefix.new.self) now c.add_line.new.self
          c.in-Some-next.line c.in-Some.prefix (items_of c.put_in_front.new.text) inv.after first
          (c.in_ok-put_in_front.ensures.items ∙ (λ i. text_items (chars (c.as_str.ensures i)) now.annotations ++ c.in_ok-text.ensures.items i))
          line c.in_ok-add_line.ensures.settings
          (ap (λ (r : Renderer g.row.D.Denot g.row.D-Annotation-Meaning.Denot (List g.row.D-Annotation-Meaning.Denot)). r.failure) line ∙ inv.after.put.unfailed);
      merged = (subst (Each (IsMergedText (same_annotations g.D.Annotation.Tag.same))) first inv.merged).1;
    }

pub returns-clause-lines : goal.returns-clause-lines
returns-clause-lines g c =
    let old = c.args.self.now in
    let read = g.P.AsStr.text in
    let start = c.into_iter-prefix-iterator.result in
    let given = c.loop-prefix.yielded in
    let left = into_iter_items c.loop-prefix.lines in
    let all = append-nil given
    ∙ sym (items_taken start start c.loop-prefix.prefix-iterator c.next.new.self given refl
    c.loop-prefix.yielded_by c.in-None.ensures.steps) ∙ c.into_iter-prefix-iterator.ensures.into_iter_gives.0 in
    after_all g.W.CharWidth.columns old read c.args.lines.items given [] left c.loop-prefix.self c.loop-prefix.invariant.after refl
    ∙ ap (λ ps. with_prefixed g.W.CharWidth.columns old (texts_of read ps) (seen c.args.lines.items)) all

pub returns-in_default-clause-lines : goal.returns-in_default-clause-lines
returns-in_default-clause-lines g c =
    let old = c.args.self.now in
    let read = g.P.AsStr.text in
    let start = c.into_iter-prefix-iterator.result in
    let given = c.loop-prefix.yielded in
    let left = into_iter_items c.loop-prefix.lines in
    let more = c.in-Some.prefix ∷ into_iter_items c.next.new.self in
    let none : left ≡ [] = nil_from_length left (sym c.loop-prefix.lines.rest.ok.0 ∙ c.in_default.ensures.cases.0) in
    let all = sym (items_left start start c.loop-prefix.prefix-iterator c.next.new.self given c.in-Some.prefix refl
    c.loop-prefix.yielded_by c.in-Some.ensures.steps.0) ∙ c.into_iter-prefix-iterator.ensures.into_iter_gives.0 in
    after_all g.W.CharWidth.columns old read c.args.lines.items given more left c.loop-prefix.self c.loop-prefix.invariant.after
    (ap (λ ls. prefixed old.annotations (texts_of read more) (seen ls)) none ∙ no_line g.W.CharWidth.columns old read c.args.lines.items more)
    ∙ ap (λ ps. with_prefixed g.W.CharWidth.columns old (texts_of read ps) (seen c.args.lines.items)) all
