-- What columns need at least and at most, from cell to cell.
use Rattle.column_widths.proofs.Common.{ℕ, ◌+◌, ◌-◌, ◌/◌, ◌%◌, ◌≤◌, min, true, false, cond, eqb, List, [], ◌∷◌, ◌++◌, length, take, drop, zero, suc, arith, replicate, fold, filter, Each, CellNeed}
use Rattle.column_widths.proofs.Common.{Need, Bound, Least, Greatest, Table, widened, missing, spread, filled, after_cell, needs_of, is_of, unspanned}

-- what a column needs at most is not below what it needs at least
abbrev pub IsOrdered : Need → Type 0
IsOrdered n = n.least ≤ n.greatest

widened_ordered : (bound : Bound) (by : ℕ) (n : Need) → IsOrdered n → IsOrdered (widened bound by n)
widened_ordered Least by n h = omega arith
widened_ordered Greatest by n h = omega arith

spread_ordered : (bound : Bound) (each rest : ℕ) (ns : List Need) → Each IsOrdered ns → Each IsOrdered (spread bound each rest ns)
spread_ordered bound each rest [] h = tt
spread_ordered bound each rest (n ∷ ns) h = (widened_ordered bound (each + min 1 rest) n h.0, spread_ordered bound each (rest - 1) ns h.1)

filled_ordered : (bound : Bound) (line asked : ℕ) (ns : List Need) → Each IsOrdered ns → Each IsOrdered (filled bound line asked ns)
filled_ordered bound line asked ns h =
    let lack = missing bound line asked ns in
    elim (eqb lack 0) as (λ b. Each IsOrdered (cond b ns (spread bound (lack / length ns) (lack % length ns) ns)))
    [ true ↦ h | false ↦ spread_ordered bound (lack / length ns) (lack % length ns) ns h ]

each_append : (xs ys : List Need) → Each IsOrdered xs → Each IsOrdered ys → Each IsOrdered (xs ++ ys)
each_append [] ys h g = g
each_append (x ∷ xs) ys h g = (h.0, each_append xs ys h.1 g)

each_take : (i : ℕ) (xs : List Need) → Each IsOrdered xs → Each IsOrdered (take i xs)
each_take zero xs h = tt
each_take (suc i) [] h = tt
each_take (suc i) (x ∷ xs) h = (h.0, each_take i xs h.1)

each_drop : (i : ℕ) (xs : List Need) → Each IsOrdered xs → Each IsOrdered (drop i xs)
each_drop zero xs h = h
each_drop (suc i) [] h = tt
each_drop (suc i) (x ∷ xs) h = each_drop i xs h.1

after_cell_ordered : (line : ℕ) (ns : List Need) (c : CellNeed) → Each IsOrdered ns → Each IsOrdered (after_cell line ns c)
after_cell_ordered line ns c h =
    let from = each_drop c.column ns h in
    each_append _ _ (each_take c.column ns h)
    (each_append _ _ (filled_ordered Greatest line c.greatest _ (filled_ordered Least line c.least _ (each_take c.span _ from))) (each_drop c.span _ from))

cells_ordered : (line : ℕ) (cells : List CellNeed) (ns : List Need) → Each IsOrdered ns → Each IsOrdered (fold (after_cell line) ns cells)
cells_ordered line [] ns h = h
cells_ordered line (c ∷ cells) ns h = cells_ordered line cells (after_cell line ns c) (after_cell_ordered line ns c h)

start_ordered : (n : ℕ) → Each IsOrdered (replicate n unspanned)
start_ordered zero = tt
start_ordered (suc n) = (omega arith, start_ordered n)

pub needs_ordered : (t : Table) → Each IsOrdered (needs_of t)
needs_ordered t =
    let alone = filter (is_of true) t.cells in
    let others = filter (is_of false) t.cells in
    cells_ordered t.line others (fold (after_cell t.line) (replicate t.columns unspanned) alone)
    (cells_ordered t.line alone (replicate t.columns unspanned) (start_ordered t.columns))
