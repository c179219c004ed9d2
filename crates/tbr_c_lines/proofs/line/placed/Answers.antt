use Rattle.std.proofs.Common.{◌≡◌, map, map-id, ap, subst, refl, sym, ◌∙◌, rules}
use Rattle.std.proofs.lemmas.Iterator.Consumers.{YieldsList-from_first, YieldsList-end}
use Rattle.std.proofs.lemmas.List.{map_push}
use Rattle.tbr_tagged.specs.View.{element_of}
use Rattle.tbr_tagged.specs.Walks.{elements_to_come}
use Rattle.tbr_c_lines.specs.Line.{pieces_at}
use Rattle.tbr_c_lines.proofs.Places.{one_after, end_at, bytes_of, bytes_one_more}
use Rattle.tbr_c_lines.proofs.line.placed.Goals as goal

pub loop-element-preserved : goal.loop-element-preserved
loop-element-preserved g c = search (rules, bytes_of, map_push, one_after, end_at, bytes_one_more, c.loop-element.invariant, c.in_ok-piece.ensures, c.in_ok-push.ensures.items, c.piece.view_is)

pub returns : goal.returns
returns g c =
    let walk = c.into_iter-element-iterator.result in
    let given = c.into_iter-element-iterator.ensures.into_iter_gives in
    let list = YieldsList-from_first (λ x. x) elements_to_come (elements_to_come walk) refl in
    let end = YieldsList-end list c.loop-element.yielded c.loop-element.element-iterator c.loop-element.yielded_by c.next.result c.next.new.self c.in-None.is c.next.ensures.steps in
    let all = ap (map element_of) (sym (map-id c.loop-element.yielded) ∙ end.0) ∙ given.0 in
    subst (λ es. c.loop-element.pieces.items ≡ pieces_at g.A.Annotation.shown 0 es) all c.loop-element.invariant.pieces
