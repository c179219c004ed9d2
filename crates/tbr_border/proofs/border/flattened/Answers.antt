use Rattle.tbr_border.proofs.Common.{◌≡◌, ◌+◌, ◌≤◌, List, ◌∷◌, [], ◌++◌, map, map-id, length, ap, sym, ◌∙◌, arith, append_assoc, append-nil, refl, slice_range, map_push, YieldsList-from_vec}
use Rattle.tbr_border.proofs.Common.{YieldsList-end, items_of, SameItems, cell_of, Hole, AreInOrder, drawn, shown_from, hole_of, same_items, same_items_trans}
use Rattle.std.proofs.Common.{subst}
use Rattle.tbr_tagged.proofs.TextColumns.{turn_and_rest}
use Rattle.tbr_border.proofs.BorderText.{in_order_within, hole_here, map-slice, cells_from, line_step}
use Rattle.tbr_border.proofs.border.flattened.Goals as goal
use Rattle.tbr_border.proofs.border.flattened.Goals.{In-Some, In-None}

pub loop-span-init : goal.loop-span-init
loop-span-init g c = record {
  items = λ rest. rw c.new-line.ensures (same_items g.T.PartialEq.eq g.met.T.Eq.laws (shown_from c.args.tag.now (map cell_of c.as_slice-cells.result.now) 0 rest));
  merged = rw c.new-line.ensures tt;
  fit = λ rest e. subst (λ hs. AreInOrder 0 hs (length c.as_slice-cells.result.now)) e (rw c.as_slice-cells.ensures.value c.requires.fit);
}

-- the hole that is met comes next, within the cells
here : (g : _) (c : In-Some g) → (c.loop-span.at ≤ c.in-Some.span.place) × (c.in-Some.span.place + c.in-Some.span.width ≤ length c.as_slice-cells.result.now)
here g c =
    let given = c.into_iter-span-iterator.ensures.into_iter_gives in
    let list = YieldsList-from_vec c.args.holes.items given.0 (given.1 ∙ c.args.holes.ok.0) in
    let w = turn_and_rest list c.loop-span.yielded c.loop-span.span-iterator c.loop-span.yielded_by c.next.result c.next.new.self c.in-Some.span c.in-Some.is c.next.ensures.steps in
    let order = hole_here hole_of c.args.holes.items c.loop-span.yielded w.0 c.in-Some.span c.loop-span.at (length c.as_slice-cells.result.now) w.1 c.loop-span.invariant.fit in
    (order.0, in_order_within _ _ _ order.1)

pub slice_bounds-push_cells-count : goal.slice_bounds-push_cells-count
slice_bounds-push_cells-count g c = let order = here g (goal.at.slice_bounds-push_cells-count g c).In-Some in omega (arith, order.0, order.1)

pub slice_bounds-push_cells-start : goal.slice_bounds-push_cells-start
slice_bounds-push_cells-start g c = let order = here g (goal.at.slice_bounds-push_cells-start g c).In-Some in omega (arith, order.0, order.1)

pub slice_bounds-push_cells-end : goal.slice_bounds-push_cells-end
slice_bounds-push_cells-end g c = let order = here g (goal.at.slice_bounds-push_cells-end g c).In-Some in omega (arith, order.0, order.1)

pub overflow_add-at : goal.overflow_add-at
overflow_add-at g c =
    let order = here g (goal.at.overflow_add-at g c).In-Some in
    omega (arith, order.1, ap length c.as_slice-cells.ensures.value, c.args.segments.now.ok.0, c.args.segments.now.ok.1, c.args.segments.now.small)

-- all holes were met
all : (g : _) (c : In-None g) → map hole_of c.loop-span.yielded ++ [] ≡ map hole_of c.args.holes.items
all g c =
    let given = c.into_iter-span-iterator.ensures.into_iter_gives in
    let list = YieldsList-from_vec c.args.holes.items given.0 (given.1 ∙ c.args.holes.ok.0) in
    let end = YieldsList-end list c.loop-span.yielded c.loop-span.span-iterator c.loop-span.yielded_by c.next.result c.next.new.self c.in-None.is c.next.ensures.steps in
    append-nil (map hole_of c.loop-span.yielded) ∙ ap (map hole_of) (sym (map-id c.loop-span.yielded) ∙ end.0)

pub slice_bounds-push_cells-count-2 : goal.slice_bounds-push_cells-count-2
slice_bounds-push_cells-count-2 g c = omega (arith, c.loop-span.invariant.fit [] (sym (all g (goal.at.slice_bounds-push_cells-count-2 g c).In-None)))

pub slice_bounds-push_cells-start-2 : goal.slice_bounds-push_cells-start-2
slice_bounds-push_cells-start-2 g c = omega (arith, c.loop-span.invariant.fit [] (sym (all g (goal.at.slice_bounds-push_cells-start-2 g c).In-None)))

pub loop-span-preserved : goal.loop-span-preserved
loop-span-preserved g c =
    let eq = g.T.PartialEq.eq in
    let laws = g.met.T.Eq.laws in
    let tag = c.args.tag.now in
    let cells = map cell_of c.as_slice-cells.result.now in
    let hole = hole_of c.in-Some.span in
    let seen = map hole_of c.loop-span.yielded in
    let drew : SameItems eq (items_of c.push_cells.new.line) (items_of c.loop-span.line ++ drawn (slice_range cells c.loop-span.at c.in-Some.span.place) tag) =
    rw (← map-slice cell_of c.as_slice-cells.result.now c.loop-span.at c.in-Some.span.place) c.in_ok-push_cells.ensures.items in
    let more : (rest : List (Hole g.row.T.Denot)) → map hole_of (c.loop-span.yielded ++ c.in-Some.span ∷ []) ++ rest ≡ seen ++ (hole ∷ rest) =
    λ rest. rw (map_push, append_assoc) refl in
    record {
      items = λ rest.
          same_items_trans eq laws (items_of c.push.new.self ++ shown_from tag cells (hole.place + hole.width) rest) (items_of c.loop-span.line ++ shown_from tag cells c.loop-span.at (hole ∷ rest))
          (shown_from tag cells 0 (map hole_of (c.loop-span.yielded ++ c.in-Some.span ∷ []) ++ rest))
          (line_step eq laws tag cells c.loop-span.at hole rest (items_of c.loop-span.line) (items_of c.push_cells.new.line) (items_of c.push.new.self) drew c.in_ok-push.ensures.items)
          (rw (more rest) (c.loop-span.invariant.items (hole ∷ rest)));
      merged = c.in_ok-push.ensures.merged (c.in_ok-push_cells.ensures.merged c.loop-span.invariant.merged);
      fit = λ rest e. (c.loop-span.invariant.fit (hole ∷ rest) (e ∙ more rest)).1;
    }

pub returns-clause-items : goal.returns-clause-items
returns-clause-items g c =
    let eq = g.T.PartialEq.eq in
    let tag = c.args.tag.now in
    let cells = map cell_of c.as_slice-cells.result.now in
    let drew : SameItems eq (items_of c.push_cells-2.new.line) (items_of c.loop-span.line ++ shown_from tag cells c.loop-span.at []) =
    rw (← cells_from cell_of c.as_slice-cells.result.now c.loop-span.at) c.in_ok-push_cells-2.ensures.items in
    rw (← all g (goal.at.returns-clause-items g c).In-None, ← c.as_slice-cells.ensures.value)
    (same_items_trans eq g.met.T.Eq.laws (items_of c.push_cells-2.new.line) (items_of c.loop-span.line ++ shown_from tag cells c.loop-span.at [])
    (shown_from tag cells 0 (map hole_of c.loop-span.yielded ++ [])) drew (c.loop-span.invariant.items []))
