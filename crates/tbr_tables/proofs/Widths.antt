-- The cells of a row take the width of its table.
use Rattle.std.proofs.Common.{◌≡◌, ◌↔◌, ℕ, zero, suc, ◌+◌, ◌-◌, ◌<◌, ◌≤◌, Option, None, Some, List, [], ◌∷◌, length, get_or, refl, sym, ap, subst, ◌∙◌, arith, add-zero}
use Rattle.std.specs.List.{sum, sum_by, AllByRecursion as Each}
use Rattle.std.proofs.lemmas.List.Sums.{sum_by-cons}
use Rattle.column_widths.specs.declared.need.Bound.TheVariants.{Least}
use Rattle.column_widths.specs.Table.{Table}
use Rattle.column_widths.specs.Needs.{needs_of}
use Rattle.column_widths.specs.Widths.{widths}
use Rattle.column_widths.specs.Laws.{IsWithinNeed, room_of}
use Rattle.column_widths.proofs.AnyWidths.{all_within, columns_seen, least_decides}
use Rattle.column_widths.proofs.Rooms.{zip_length, needs_length}
use Rattle.std.specs.Prelude.{option_map}
use Rattle.tbr_tables.specs.declared.drawn_table.DrawnLevel.{DrawnLevel}
use Rattle.tbr_tables.specs.declared.grid.Spot.{Spot}
use Rattle.tbr_tables.specs.declared.shape.Shape.{Shape}
use Rattle.tbr_tables.specs.Drawn.{table_of}
use Rattle.tbr_tables.proofs.Tiles.{tiles_end}
use Rattle.tbr_tables.specs.Edges.{edges_from}
use Rattle.tbr_tables.specs.Laws.{Tiles, width_at}

-- an edge, counted from another
abbrev edge : ℕ → List ℕ → ℕ → ℕ
edge from ws i = get_or (edges_from from ws) i 0

first_edge : (from : ℕ) (ws : List ℕ) → edge from ws 0 ≡ from
first_edge from [] = refl
first_edge from (w ∷ ws) = refl

no_less : (from : ℕ) (ws : List ℕ) (i : ℕ) → i ≤ length ws → from ≤ edge from ws i
no_less from [] zero h = omega arith
no_less from [] (suc i) h = absurd (omega (arith, h))
no_less from (w ∷ ws) zero h = omega arith
no_less from (w ∷ ws) (suc i) h = let rest = no_less (from + w + 1) ws i (omega (arith, h)) in omega (arith, rest)

rises : (from : ℕ) (ws : List ℕ) (a b : ℕ) → Each (λ w. 1 ≤ w) ws → a < b → b ≤ length ws → edge from ws a + 2 ≤ edge from ws b
rises from [] a b each h g = absurd (omega (arith, h, g))
rises from (w ∷ ws) a zero each h g = absurd (omega (arith, h))
rises from (w ∷ ws) zero (suc b) each h g =
    let one = each.0 in let rest = no_less (from + w + 1) ws b (omega (arith, g)) in omega (arith, one, rest)
rises from (w ∷ ws) (suc a) (suc b) each h g = rises (from + w + 1) ws a b each.1 (omega (arith, h)) (omega (arith, g))

sum_cons : (w : ℕ) (ws : List ℕ) → sum (w ∷ ws) ≡ w + sum ws
sum_cons w ws = sum_by-cons (λ x. x) w ws

last_edge : (from : ℕ) (ws : List ℕ) → edge from ws (length ws) ≡ from + sum ws + length ws
last_edge from [] = omega arith
last_edge from (w ∷ ws) =
    let e : from + w + 1 + sum ws + length ws ≡ from + (w + sum ws) + suc (length ws) = omega arith in
    last_edge (from + w + 1) ws ∙ e ∙ ap (λ (n : ℕ). from + n + suc (length ws)) (sym (sum_cons w ws))

-- cells that follow one another
row_adds : (ws : List ℕ) (any a b : ℕ) (row : List Spot) → Each (λ w. 1 ≤ w) ws → Tiles a row b → b ≤ length ws →
    edge 0 ws a + (sum_by (width_at ws any) row + length row) ≡ edge 0 ws b
row_adds ws any a b [] each h g = add-zero (edge 0 ws a) ∙ ap (λ (n : ℕ). edge 0 ws n) h
row_adds ws any a b (s ∷ ss) each h g =
    let f = width_at ws any in
    let end = tiles_end s.end b ss h.2 in
    let up = rises 0 ws s.column s.end each h.1 (omega (arith, end, g)) in
    let rest = row_adds ws any s.end b ss each h.2 g in
    let here : edge 0 ws s.column + ((f s + sum_by f ss) + suc (length ss)) ≡ edge 0 ws b = omega (arith, up, rest) in
    ap (λ (n : ℕ). edge 0 ws a + (n + suc (length ss))) (sum_by-cons f s ss)
    ∙ subst (λ (n : ℕ). edge 0 ws n + ((f s + sum_by f ss) + suc (length ss)) ≡ edge 0 ws b) h.0 here

one_less : (row : List Spot) (columns total all : ℕ) → Tiles 0 row columns → total + length row ≡ all + columns →
    total + (length row - 1) ≡ all + (columns - 1)
one_less [] columns total all h e = omega (arith, h, e)
one_less (s ∷ ss) columns total all h e =
    let more = h.1 in let end = tiles_end s.end columns ss h.2 in omega (arith, more, end, e)

pub rows_width : (t : Table) (room any : ℕ) (ws : List ℕ) (row : List Spot) → widths t room ≡ Some ws →
    Tiles 0 row t.columns → sum_by (width_at ws any) row + (length row - 1) ≡ sum ws + (t.columns - 1)
rows_width t room any ws row h tiles =
    let within = all_within t room ws h in
    let count : length ws ≡ t.columns = sym (zip_length IsWithinNeed (needs_of t) ws within) ∙ needs_length t in
    let adds = row_adds ws any 0 t.columns row (columns_seen t room ws h) tiles (omega (arith, count)) in
    let first = first_edge 0 ws in
    let last : edge 0 ws t.columns ≡ 0 + sum ws + t.columns =
    subst (λ (n : ℕ). edge 0 ws n ≡ 0 + sum ws + n) count (last_edge 0 ws) in
    one_less row t.columns (sum_by (width_at ws any) row) (sum ws) tiles (omega (arith, adds, first, last))

pub border_width : (t : Table) (room any : ℕ) (ws : List ℕ) → widths t room ≡ Some ws → 0 < t.columns →
    width_at ws any (record { column = 0; end = t.columns; rows = 1 }) ≡ sum ws + (t.columns - 1)
border_width t room any ws h some =
    let all = rows_width t room any ws (record { column = 0; end = t.columns; rows = 1 } ∷ []) h (refl, some, refl) in
    omega (arith, all)

none_mapped : {A B : Type 0} (f : A → B) (o : Option A) → (option_map f o ≡ None) ↔ (o ≡ None)
none_mapped f None = (λ h. refl, λ h. refl)
none_mapped f (Some x) = (λ h. absurd (cc h), λ h. absurd (cc h))

pub below_where : (level : DrawnLevel) (shape : Shape) →
    ((table_of level (Some shape)).edges ≡ None) ↔ (level.room < room_of Least shape.columns)
below_where level shape =
    let mapped = none_mapped (edges_from 0) (widths shape.columns level.room) in
    let least = least_decides shape.columns level.room in
    (λ h. least.0 (mapped.0 h), λ h. mapped.1 (least.1 h))
