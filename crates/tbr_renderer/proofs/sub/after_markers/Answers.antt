use Rattle.tbr_renderer.proofs.Common.{[], ◌++◌, map, map-id, ap, subst, refl, sym, ◌∙◌, ◌≡◌, Bool, List, ◌∷◌, append_assoc, append-nil, YieldsList-end, items_of, SameItems, Element}
use Rattle.tbr_renderer.proofs.Common.{element_of, IsEquivalence, map-append, Item, TaggedLineElement, same_items, same_items_trans, same_items_append}
use Rattle.std.proofs.lemmas.Iterator.Consumers.{YieldsList-from_first}
use Rattle.tbr_tagged.specs.Elements.{element_items}
use Rattle.tbr_tagged.specs.Walks.{elements_to_come}
use Rattle.std.proofs.lemmas.List.Concat.{flat_map-append}
use Rattle.tbr_renderer.proofs.sub.after_markers.Goals as goal

module _ {A : Type 0} (eq : A → A → Bool) (laws : IsEquivalence eq) where
  -- one more element
  one_more : (old new : List (Element A)) (front : List (Item A)) (es : List (TaggedLineElement A)) (e : TaggedLineElement A) →
      SameItems eq (items_of old) (front ++ items_of (map element_of es)) → SameItems eq (items_of new) (items_of old ++ element_items (element_of e)) →
      SameItems eq (items_of new) (front ++ items_of (map element_of (es ++ e ∷ [])))
  one_more old new front es e h k =
      let last : List (Item A) = element_items (element_of e) in
      let parts : items_of (map element_of (es ++ e ∷ [])) ≡ items_of (map element_of es) ++ last = simp (map-append, flat_map-append, append-nil) in
      let whole : (front ++ items_of (map element_of es)) ++ last ≡ front ++ items_of
      (map element_of (es ++ e ∷ [])) = append_assoc front (items_of (map element_of es)) last ∙ ap (λ is. front ++ is) (sym parts) in
      subst (SameItems eq (items_of new)) whole
      (same_items_trans eq laws (items_of new) (items_of old ++ last) ((front ++ items_of (map element_of es)) ++ last) k
      (same_items_append eq laws (items_of old) (front ++ items_of (map element_of es)) last last h (same_items eq laws last)))

pub loop-marker-preserved : goal.loop-marker-preserved
loop-marker-preserved g c =
    let inv = c.loop-marker.invariant in
    (one_more g.T.PartialEq.eq g.met.T.Eq.laws c.loop-marker.whole c.push.new.self [] c.loop-marker.yielded c.in-Some.marker inv.0 c.in_ok-push.ensures.items, c.in_ok-push.ensures.merged inv.1)

pub loop-element-preserved : goal.loop-element-preserved
loop-element-preserved g c =
    let inv = c.loop-element.invariant in (
      one_more g.T.PartialEq.eq g.met.T.Eq.laws c.loop-element.whole c.push-in-loop-element.new.self
          (items_of (map element_of c.args.markers.items)) c.loop-element.yielded c.in-Some-element.element inv.0
          c.in_ok-push-2.ensures.items,
      c.in_ok-push-2.ensures.merged inv.1,
    )

pub returns-clause-items : goal.returns-clause-items
returns-clause-items g c =
    let walk = c.into_iter-element-iterator.result in
    let given = c.into_iter-element-iterator.ensures.into_iter_gives in
    let list = YieldsList-from_first (λ x. x) elements_to_come (elements_to_come walk) refl in
    let end = YieldsList-end list c.loop-element.yielded c.loop-element.element-iterator c.loop-element.yielded_by
    c.next-in-loop-element.result c.next-in-loop-element.new.self c.in-None-element.is c.next-in-loop-element.ensures.steps in
    let all = ap (map element_of) (sym (map-id c.loop-element.yielded) ∙ end.0) ∙ given.0 in
    subst (λ es. SameItems g.T.PartialEq.eq (items_of c.loop-element.whole) (items_of (map element_of c.args.markers.items) ++ items_of es)) all c.loop-element.invariant.0
