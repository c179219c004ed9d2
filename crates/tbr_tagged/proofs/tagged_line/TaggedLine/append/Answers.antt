use Rattle.tbr_tagged.proofs.Common.{◌≡◌, ap, sym, map-id, ◌∙◌, map, fold, length, refl, YieldsList-turn, YieldsList-end, push_element, element_of}
use Rattle.std.proofs.lemmas.Iterator.Consumers.{YieldsList-from_first}
use Rattle.tbr_tagged.specs.Walks.{elements_to_come}
use Rattle.tbr_tagged.proofs.GrownLines.{grown_by_elements, line_has_items}
use Rattle.tbr_tagged.proofs.AppendedLines.{appended_items, appended_merged}
use Rattle.tbr_tagged.proofs.tagged_line.TaggedLine.append.Goals as goal
use Rattle.tbr_tagged.proofs.tagged_line.TaggedLine.append.Goals.{In-None}

appended : (g : _) (c : In-None g) → c.loop-element.self ≡ fold (push_element g.T.PartialEq.eq) c.args.self.now c.args.other
appended g c =
    let list = YieldsList-from_first (λ x. x) elements_to_come (elements_to_come c.into_iter-element-iterator.result) refl in
    let end = YieldsList-end list c.loop-element.yielded c.loop-element.element-iterator c.loop-element.yielded_by c.next.result c.next.new.self c.in-None.is c.next.ensures.steps in
    c.loop-element.invariant
    ∙ ap (fold (push_element g.T.PartialEq.eq) c.args.self.now) (ap (map element_of) (sym (map-id c.loop-element.yielded) ∙ end.0) ∙ c.into_iter-element-iterator.ensures.into_iter_gives.0)

pub returns-clause-ok : goal.returns-clause-ok
returns-clause-ok g c = appended g (goal.at.returns-clause-ok g c).In-None

pub returns-clause-items : goal.returns-clause-items
returns-clause-items g c =
    rw (appended g (goal.at.returns-clause-items g c).In-None) (appended_items g.T.PartialEq.eq g.met.T.Eq.laws c.args.self.now c.args.other)

pub returns-clause-merged : goal.returns-clause-merged
returns-clause-merged g c = λ h.
    rw (appended g (goal.at.returns-clause-merged g c).In-None) (appended_merged g.T.PartialEq.eq c.args.self.now c.args.other h)

pub returns-in-Err-clause-err : goal.returns-in-Err-clause-err
returns-in-Err-clause-err g c =
    let eq = g.T.PartialEq.eq in
    c.cut_back.ensures c.args.self.now (sym c.end-end.ensures.elements) (sym c.end-end.ensures.bytes)
    (rw (c.in-Err.ensures.err, c.loop-element.invariant) (grown_by_elements eq c.args.self.now (map element_of c.loop-element.yielded)))

pub returns-in-Err-clause-some : goal.returns-in-Err-clause-some
returns-in-Err-clause-some g c =
    let all = elements_to_come c.into_iter-element-iterator.result in
    let list = YieldsList-from_first (λ x. x) elements_to_come all refl in
    let turn =
    YieldsList-turn list c.loop-element.yielded c.loop-element.element-iterator c.loop-element.yielded_by
    c.next.result c.next.new.self c.in-Some.element c.in-Some.is c.next.ensures.steps in
    rw (← c.into_iter-element-iterator.ensures.into_iter_gives.0)
    (line_has_items element_of all (length c.loop-element.yielded) c.in-Some.element turn.0 turn.1 c.in-Err.ensures.some)
