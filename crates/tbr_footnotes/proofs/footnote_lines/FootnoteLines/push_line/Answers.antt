use Rattle.std.proofs.Common.{map, map-id, ap, sym, ◌∙◌, refl, rules}
use Rattle.std.proofs.lemmas.Iterator.Consumers.{YieldsList-from_first, YieldsList-end}
use Rattle.tbr_tagged.specs.View.{element_of}
use Rattle.tbr_tagged.specs.Walks.{elements_to_come}
use Rattle.tbr_footnotes.proofs.CutLines.{elements_go_on, elements_end}
use Rattle.tbr_footnotes.proofs.footnote_lines.FootnoteLines.push_line.Goals as goal

pub loop-element-preserved : goal.loop-element-preserved
loop-element-preserved g c = search (rules, elements_go_on, c.loop-element.invariant, c.in_ok-push_element.ensures)

pub returns : goal.returns
returns g c =
    let f = g.D.Annotation.Tag.meaning in
    let walk = c.into_iter-element-iterator.result in
    let given = c.into_iter-element-iterator.ensures.into_iter_gives in
    let list = YieldsList-from_first (λ x. x) elements_to_come (elements_to_come walk) refl in
    let end = YieldsList-end list c.loop-element.yielded c.loop-element.element-iterator c.loop-element.yielded_by c.next.result c.next.new.self c.in-None.is c.next.ensures.steps in
    elements_end f g.W.CharWidth.columns c.args.self.now c.loop-element.self c.loop-element.yielded c.args.line
    c.loop-element.invariant (ap (map element_of) (sym (map-id c.loop-element.yielded) ∙ end.0) ∙ given.0)
