-- The cells of a row follow one another.
use Rattle.std.proofs.Common.{◌≡◌, ℕ, zero, suc, ◌+◌, ◌-◌, ◌<◌, ◌≤◌, min, max, eqb, Bool, true, false, cond, Option, None, Some, List, [], ◌∷◌, ◌++◌, take, drop, map, filter, refl, sym, subst, arith}
use Rattle.std.specs.Prelude.{fold}
use Rattle.std.specs.List.{AllByRecursion as Each}
use Rattle.std.proofs.lemmas.Bool.{eqb-true, eqb-false}
use Rattle.tbr_tables.specs.declared.grid.Spot.{Spot}
use Rattle.tbr_tables.specs.declared.step.TableCell.{TableCell}
use Rattle.tbr_tables.specs.Grid.{Grid, first_row, adjacent, end_of, next_from_above, passed, before_first, spot_for, placed, most_columns, singles, between, rest_of_row, carried}
use Rattle.tbr_tables.specs.Grid.{spans_more, one_row_less}
use Rattle.tbr_tables.specs.Laws.{Tiles, EndsBy, moved, grid_of, full_row}
use Rattle.tbr_tables.proofs.Cases.{by_bool}

-- Cells that come one after another from a column on, perhaps with columns between them.
abbrev pub Apart : ℕ → List Spot → Type 0
Apart column [] = Unit {0}
Apart column (s ∷ ss) = (column ≤ s.column) × (s.column < s.end) × Apart s.end ss

-- the first of them, if there is one, is after a column
abbrev pub After : ℕ → List Spot → Type 0
After column [] = Unit {0}
After column (s ∷ ss) = column < s.column

-- one after another, then others
tiles_append : (a b c : ℕ) (xs ys : List Spot) → Tiles a xs b → Tiles b ys c → Tiles a (xs ++ ys) c
tiles_append a b c [] ys h g = subst (λ (n : ℕ). Tiles n ys c) (sym h) g
tiles_append a b c (x ∷ xs) ys h g = (h.0, h.1, tiles_append x.end b c xs ys h.2 g)

apart_from : (a b : ℕ) (xs : List Spot) → a ≤ b → Apart b xs → Apart a xs
apart_from a b [] h g = tt
apart_from a b (x ∷ xs) h g = let first = g.0 in (omega (arith, h, first), g.1, g.2)

tiles_apart : (a b : ℕ) (xs ys : List Spot) → Tiles a xs b → Apart b ys → Apart a (xs ++ ys)
tiles_apart a b [] ys h g = subst (λ (n : ℕ). Apart n ys) (sym h) g
tiles_apart a b (x ∷ xs) ys h g = let first = h.0 in (omega (arith, first), h.1, tiles_apart x.end b xs ys h.2 g)

pub tiles_end : (a b : ℕ) (xs : List Spot) → Tiles a xs b → a ≤ b
tiles_end a b [] h = omega (arith, h)
tiles_end a b (x ∷ xs) h = let first = h.0 in let more = h.1 in let rest = tiles_end x.end b xs h.2 in omega (arith, first, more, rest)

-- ---- cells from above that are next

-- what is known of the cells that follow one another, and of the others
pub record Split (column : ℕ) (above : List Spot) : Type 0 where
  pub next : Tiles column (take (adjacent column above) above) (end_of column (take (adjacent column above) above))
  pub others : Apart (end_of column (take (adjacent column above) above)) (drop (adjacent column above) above)
  pub after : After (end_of column (take (adjacent column above) above)) (drop (adjacent column above) above)

split : (column : ℕ) (above : List Spot) → Apart column above → Split column above
split column [] h = record { next = refl; others = tt; after = tt }
split column (s ∷ ss) h =
    let rest = split s.end ss h.2 in
    let n = adjacent s.end ss in
    let go : (b : Bool) → eqb s.column column ≡ b →
    (Tiles column (take (cond b (suc n) 0) (s ∷ ss)) (end_of column (take (cond b (suc n) 0) (s ∷ ss))))
    × (Apart (end_of column (take (cond b (suc n) 0) (s ∷ ss))) (drop (cond b (suc n) 0) (s ∷ ss)))
    × (After (end_of column (take (cond b (suc n) 0) (s ∷ ss))) (drop (cond b (suc n) 0) (s ∷ ss))) =
    λ b. elim b as (λ v. eqb s.column column ≡ v →
    (Tiles column (take (cond v (suc n) 0) (s ∷ ss)) (end_of column (take (cond v (suc n) 0) (s ∷ ss))))
    × (Apart (end_of column (take (cond v (suc n) 0) (s ∷ ss))) (drop (cond v (suc n) 0) (s ∷ ss)))
    × (After (end_of column (take (cond v (suc n) 0) (s ∷ ss))) (drop (cond v (suc n) 0) (s ∷ ss)))) [
      | true ↦ λ e. ((eqb-true s.column column e, h.1, rest.next), rest.others, rest.after)
      | false ↦ λ e. (refl, h, let first = h.0 in let ne = eqb-false s.column column e in omega (arith, first, ne))
    ] in
    let got = go (eqb s.column column) refl in
    record { next = got.0; others = got.1; after = got.2 }

-- ---- grids

-- The cells that have come follow one another up to a column, and those from above come after it.
pub record IsInOrder (g : Grid) : Type 0 where
  pub row : Tiles 0 g.row g.column
  pub above : Apart g.column g.above

passed_in_order : (g : Grid) → IsInOrder g → IsInOrder (passed g)
passed_in_order g h =
    let s = split g.column g.above h.above in
    record {
      row = tiles_append 0 g.column (end_of g.column (next_from_above g)) g.row (next_from_above g) h.row s.next;
      above = s.others;
    }

-- the end of a cell that comes next
ends_after : (column columns : ℕ) (above : List Spot) → After column above → column < before_first (column + min (max columns 1) most_columns) above
ends_after column columns [] h = omega arith
ends_after column columns (s ∷ ss) h = omega (arith, h)

apart_after : (end column : ℕ) (above : List Spot) → Apart column above → Apart (before_first end above) above
apart_after end column [] h = tt
apart_after end column (s ∷ ss) h = (omega arith, h.1, h.2)

placed_in_order : (columns rows : ℕ) (g : Grid) → IsInOrder g → After g.column g.above → IsInOrder (placed (spot_for columns rows g) g)
placed_in_order columns rows g h after =
    let spot = spot_for columns rows g in
    record {
      row = tiles_append 0 g.column spot.end g.row (spot ∷ []) h.row (refl, ends_after g.column columns g.above after, refl);
      above = apart_after (g.column + min (max columns 1) most_columns) g.column g.above h.above;
    }

carried_apart : (a : ℕ) (xs : List Spot) → Apart a xs → Apart a (carried xs)
carried_apart a [] h = tt
carried_apart a (x ∷ xs) h =
    let rest = carried_apart x.end xs h.2 in
    let first = h.0 in
    let more = h.1 in
    by_bool (λ b. Apart a (map one_row_less (cond b (x ∷ filter spans_more xs) (filter spans_more xs))))
    (first, more, rest) (apart_from a x.end (carried xs) (omega (arith, first, more)) rest) (spans_more x)

carried_after : (a b : ℕ) (xs ys : List Spot) → Tiles a xs b → Apart b ys → Apart a (carried xs ++ carried ys)
carried_after a b [] ys h g = carried_apart a ys (subst (λ (n : ℕ). Apart n ys) (sym h) g)
carried_after a b (x ∷ xs) ys h g =
    let rest = carried_after x.end b xs ys h.2 g in
    let first = h.0 in
    let more = h.1 in
    by_bool (λ b. Apart a (map one_row_less (cond b (x ∷ filter spans_more xs) (filter spans_more xs)) ++ carried ys))
    (omega (arith, first), more, rest)
    (apart_from a x.end (carried xs ++ carried ys) (omega (arith, first, more)) rest) (spans_more x)

moved_in_order : (g : Grid) (move : Option TableCell) → IsInOrder g → IsInOrder (moved g move)
moved_in_order g None h = record { row = refl; above = carried_after 0 g.column g.row g.above h.row h.above }
moved_in_order g (Some cell) h =
    placed_in_order cell.columns cell.rows (passed g) (passed_in_order g h) (split g.column g.above h.above).after

all_in_order : (g : Grid) (moves : List (Option TableCell)) → IsInOrder g → IsInOrder (fold moved g moves)
all_in_order g [] h = h
all_in_order g (move ∷ moves) h = all_in_order (moved g move) moves (moved_in_order g move h)

-- ---- what fills a row

singles_tile : (column n : ℕ) → Tiles column (singles column n) (column + n)
singles_tile column zero = omega arith
singles_tile column (suc n) =
    let e : column + 1 + n ≡ column + suc n = omega arith in
    (refl, omega arith, subst (λ (m : ℕ). Tiles (column + 1) (singles (column + 1) n) m) e (singles_tile (column + 1) n))

singles_to : (a b : ℕ) → a ≤ b → Tiles a (singles a (b - a)) b
singles_to a b h =
    let e : a + (b - a) ≡ b = omega (arith, h) in
    subst (λ (m : ℕ). Tiles a (singles a (b - a)) m) e (singles_tile a (b - a))

between_tiles : (column : ℕ) (above : List Spot) → Apart column above → Tiles column (between column above) (end_of column above)
between_tiles column [] h = refl
between_tiles column (s ∷ ss) h =
    tiles_append column s.column (end_of s.end ss) (singles column (s.column - column)) (s ∷ between s.end ss)
    (singles_to column s.column h.0) (refl, h.1, between_tiles s.end ss h.2)

-- ---- where cells end

both : {X : Type 0} (P : X → Type 0) (xs ys : List X) → Each P (xs ++ ys) → Each P xs × Each P ys
both P [] ys h = (tt, h)
both P (x ∷ xs) ys h = let rest = both P xs ys h.1 in ((h.0, rest.0), rest.1)

tiles_by : (a b end : ℕ) (xs : List Spot) → Tiles a xs b → a ≤ end → Each (EndsBy end) xs → b ≤ end
tiles_by a b end [] h g each = omega (arith, h, g)
tiles_by a b end (x ∷ xs) h g each = tiles_by x.end b end xs h.2 each.0 each.1

end_by : (a end : ℕ) (xs : List Spot) → a ≤ end → Each (EndsBy end) xs → end_of a xs ≤ end
end_by a end [] h each = h
end_by a end (x ∷ xs) h each = end_by x.end end xs each.0 each.1

row_full : (g : Grid) (columns : ℕ) → IsInOrder g → Each (EndsBy columns) (g.row ++ g.above) → Tiles 0 (full_row columns g) columns
row_full g columns h each =
    let parts = both (EndsBy columns) g.row g.above each in
    let here = tiles_by 0 g.column columns g.row h.row (omega arith) parts.0 in
    let end = end_of g.column g.above in
    let within = end_by g.column columns g.above here parts.1 in
    tiles_append 0 g.column columns g.row (rest_of_row columns g) h.row
    (tiles_append g.column end columns (between g.column g.above) (singles end (columns - end))
    (between_tiles g.column g.above h.above) (singles_to end columns within))

pub rows_full : (moves : List (Option TableCell)) (columns : ℕ) → let g = grid_of moves in
    Each (EndsBy columns) (g.row ++ g.above) → Tiles 0 (full_row columns g) columns
rows_full moves columns each =
    row_full (grid_of moves) columns (all_in_order first_row moves (record { row = refl; above = tt })) each
