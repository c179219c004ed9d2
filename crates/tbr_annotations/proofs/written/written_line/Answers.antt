use Rattle.std.proofs.Common.{map, map-id, ap, subst, refl, sym, ◌∙◌}
use Rattle.std.proofs.lemmas.Iterator.Consumers.{YieldsList-from_first, YieldsList-end}
use Rattle.tbr_tagged.specs.View.{element_of}
use Rattle.tbr_tagged.specs.Walks.{elements_to_come}
use Rattle.tbr_annotations.specs.Written.{WritesItems}
use Rattle.tbr_annotations.proofs.WrittenLines.{one_more_written}
use Rattle.tbr_annotations.proofs.written.written_line.Goals as goal

pub loop-element-preserved : goal.loop-element-preserved
loop-element-preserved g c = record {
  items = one_more_written g.A.Tag.meaning g.A.PartialEq.eq g.met.A.Tag.equal_by_meaning c.loop-element.out c.push.new.self c.loop-element.yielded c.in-Some.element
      (element_of c.in_ok-written_element.field-0) c.loop-element.invariant.items c.in_ok-written_element.ensures c.in_ok-push.ensures.items;
  merged = c.in_ok-push.ensures.merged c.loop-element.invariant.merged;
}

pub returns-clause-items : goal.returns-clause-items
returns-clause-items g c =
    let walk = c.into_iter-element-iterator.result in
    let given = c.into_iter-element-iterator.ensures.into_iter_gives in
    let list = YieldsList-from_first (λ x. x) elements_to_come (elements_to_come walk) refl in
    let end = YieldsList-end list c.loop-element.yielded c.loop-element.element-iterator c.loop-element.yielded_by c.next.result c.next.new.self c.in-None.is c.next.ensures.steps in
    let all = ap (map element_of) (sym (map-id c.loop-element.yielded) ∙ end.0) ∙ given.0 in
    subst (λ es. WritesItems g.A.Tag.meaning es c.loop-element.out) all c.loop-element.invariant.items
