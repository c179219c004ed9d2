use Rattle.callers.proofs.Common.{◌≡◌, [], ◌∷◌, ◌++◌, map, refl, ap, sym, ◌∙◌, YieldsList-from_vec, YieldsList-end, map-append, marker_entry, entry, grown, Element, marker_element, element_of}
use Rattle.std.proofs.Common.{map-id}
use Rattle.std.proofs.lemmas.Iterator.Consumers.{YieldsList-turn}
use Rattle.tbr_wrap.specs.Block.{loose}
use Rattle.callers.proofs.Walks.{marker_at, same_names, no_marker_yet, one_marker_more}
use Rattle.callers.proofs.handed_on.hand_on.Goals as goal

pub loop-marker-init : goal.loop-marker-init
loop-marker-init g c = ([], refl, no_marker_yet c.args.other.now)

pub add_element-requires : goal.add_element-requires
add_element-requires g c =
    let given = c.into_iter-marker-iterator.ensures.into_iter_gives in
    let list = YieldsList-from_vec c.in_ok-marker-items.marker-items.items given.0 (given.1 ∙ c.in_ok-marker-items.marker-items.ok.0) in
    let turn = YieldsList-turn list c.loop-marker.yielded c.loop-marker.marker-iterator c.loop-marker.yielded_by c.next.result c.next.new.self c.in-Some.marker c.in-Some.is c.next.ensures.steps in
    marker_at c.in_ok-marker-items.marker-items.items (loose g.W.CharWidth.columns c.args.block.now) _ c.in-Some.marker c.in_ok-marker-items.ensures.markers turn.0 turn.1

pub loop-marker-preserved : goal.loop-marker-preserved
loop-marker-preserved g c =
    let inv = c.loop-marker.invariant in
    let given = c.into_iter-marker-iterator.ensures.into_iter_gives in
    let list = YieldsList-from_vec c.in_ok-marker-items.marker-items.items given.0 (given.1 ∙ c.in_ok-marker-items.marker-items.ok.0) in
    let turn = YieldsList-turn list c.loop-marker.yielded c.loop-marker.marker-iterator c.loop-marker.yielded_by c.next.result c.next.new.self c.in-Some.marker c.in-Some.is c.next.ensures.steps in
    let marker = marker_at c.in_ok-marker-items.marker-items.items (loose g.W.CharWidth.columns c.args.block.now) _ c.in-Some.marker c.in_ok-marker-items.ensures.markers turn.0 turn.1 in
    let more = one_marker_more c.args.other.now c.loop-marker.other c.add_element.new.self inv.0 marker.0 inv.2 (c.in_ok-add_element.ensures.answers marker.0 marker.1).ok in (
      inv.0 ++ marker.0 ∷ [],
      map-append element_of c.loop-marker.yielded (c.in-Some.marker ∷ [])
          ∙ ap (λ es. es ++ element_of c.in-Some.marker ∷ []) inv.1
          ∙ ap (λ (e : Element g.row.T.Denot). map marker_element inv.0 ++ e ∷ []) marker.1
          ∙ sym (map-append marker_element inv.0 (marker.0 ∷ [])),
      more,
    )

pub returns-clause-joined : goal.returns-clause-joined
returns-clause-joined g c =
    let inv = c.loop-marker.invariant in
    let given = c.into_iter-marker-iterator.ensures.into_iter_gives in
    let list = YieldsList-from_vec c.in_ok-marker-items.marker-items.items given.0 (given.1 ∙ c.in_ok-marker-items.marker-items.ok.0) in
    let end = YieldsList-end list c.loop-marker.yielded c.loop-marker.marker-iterator c.loop-marker.yielded_by c.next.result c.next.new.self c.in-None.is c.next.ensures.steps in
    let all : c.loop-marker.yielded ≡ c.in_ok-marker-items.marker-items.items = sym (map-id c.loop-marker.yielded) ∙ end.0 in
    let names : inv.0 ≡ (loose g.W.CharWidth.columns c.args.block.now) =
    same_names g.row.T.Denot inv.0 (loose g.W.CharWidth.columns c.args.block.now)
    (sym inv.1 ∙ ap (map element_of) all ∙ c.in_ok-marker-items.ensures.markers) in
    inv.2 ∙ ap (λ ns. grown c.args.other.now (map (λ n. entry (marker_entry n)) ns)) names
