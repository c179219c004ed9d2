use Rattle.tbr_rows.proofs.Common.{◌≡◌, ℕ, Bool, Option, List, ◌++◌, ◌∷◌, [], map, refl, append-nil, map_push, flat_map-append, Border, Cell, has_gap, FillsGapIf, FillsGaps, cell_in}
use Rattle.tbr_rows.proofs.gaps.hang.Goals as goal

fills_push : {A : Type 0} (draws : Bool) (columns : ℕ → Option ℕ) (eq : A → A → Bool) (a : A) (cs : List (Cell A)) (c : Cell A) (b m end : Border A) →
    FillsGaps draws columns eq a cs b m →
    FillsGapIf (has_gap draws c) columns eq a c m end → FillsGaps draws columns eq a (cs ++ c ∷ []) b end
fills_push draws columns eq a [] c b m end h k = (end, rw h at k, refl)
fills_push draws columns eq a (d ∷ cs) c b m end h k = (h.0, h.1, fills_push draws columns eq a cs c h.0 m end h.2 k)

pub loop-column-preserved : goal.loop-column-preserved
loop-column-preserved g c =
    let seen = map cell_in c.loop-column.yielded in
    let cell = c.in-Some.column.cell in
    let more : map cell_in (c.loop-column.yielded ++ c.in-Some.column ∷ []) ≡ seen ++ cell ∷ [] = map_push cell_in c.loop-column.yielded c.in-Some.column in
    record {
      gaps =
          rw more (fills_push c.args.draws g.W.CharWidth.columns g.T.PartialEq.eq c.args.tag.now seen cell c.args.next.now c.loop-column.next
          c.hang_cell.new.next c.loop-column.invariant.gaps c.in_ok-hang_cell.ensures.gap);
      rest = rw (c.in_ok-hang_cell.ensures.rest, c.loop-column.invariant.rest, more) (simp (flat_map-append, append-nil));
    }
