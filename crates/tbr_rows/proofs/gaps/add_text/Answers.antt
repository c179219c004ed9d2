use Rattle.tbr_rows.proofs.Common.{ap, sym, ◌∙◌, map, refl, element_of, with_elements}
use Rattle.std.proofs.Common.{map-id}
use Rattle.std.proofs.lemmas.Iterator.Consumers.{YieldsList-from_first, YieldsList-end}
use Rattle.tbr_tagged.specs.Walks.{elements_to_come}
use Rattle.tbr_rows.proofs.gaps.add_text.Goals as goal

pub returns : goal.returns
returns g c =
    let walk = c.into_iter-element-iterator.result in
    let given = c.into_iter-element-iterator.ensures.into_iter_gives in
    let list = YieldsList-from_first (λ x. x) elements_to_come (elements_to_come walk) refl in
    let end = YieldsList-end list c.loop-element.yielded c.loop-element.element-iterator c.loop-element.yielded_by c.next.result c.next.new.self c.in-None.is c.next.ensures.steps in
    let all = ap (map element_of) (sym (map-id c.loop-element.yielded) ∙ end.0) ∙ given.0 in
    c.loop-element.invariant ∙ ap (with_elements g.W.CharWidth.columns c.args.place c.args.border.now) all
