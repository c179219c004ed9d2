-- What each column of a table needs.
use Rattle.std.specs.Prelude.{ℕ, ◌+◌, ◌-◌, ◌*◌, ◌/◌, ◌%◌, min, max, ◌==◌, Bool, true, false, not, if◌then◌else◌, List, [], ◌∷◌, ◌++◌, length, take, drop, replicate, fold, filter, sum_by}
use Rattle.column_widths.specs.declared.columns.CellNeed.{CellNeed}
use Rattle.column_widths.specs.declared.need.Need.{Need}
use Rattle.column_widths.specs.declared.need.Bound.{Bound}
use Rattle.column_widths.specs.declared.need.Bound.TheVariants.{Least, Greatest}
use Rattle.column_widths.specs.Table.{Table}

-- a column that no cell spans: it is one wide
abbrev pub unspanned : Need
unspanned = record { least = 1; greatest = 1 }

-- one of the two widths that a column needs
abbrev pub width_of : Bound → Need → ℕ
width_of Least n = n.least
width_of Greatest n = n.greatest

-- a column that needs so much more; what it needs at most is never below what it needs at least
abbrev pub widened : Bound → ℕ → Need → Need
widened Least by n = record { least = n.least + by; greatest = max n.greatest (n.least + by) }
widened Greatest by n = record { least = n.least; greatest = n.greatest + by }

-- what columns, and the lines between them, lack of what a cell asks
abbrev pub missing : Bound → ℕ → ℕ → List Need → ℕ
missing bound line asked ns = asked - (sum_by (width_of bound) ns + line * (length ns - 1))

-- each column needs `each` more, and the first `rest` of them need one more
abbrev pub spread : Bound → ℕ → ℕ → List Need → List Need
spread bound each rest [] = []
spread bound each rest (n ∷ ns) = widened bound (each + min 1 rest) n ∷ spread bound each (rest - 1) ns

-- columns after what they lack is spread over them evenly; those that lack nothing stay as they are
abbrev pub filled : Bound → ℕ → ℕ → List Need → List Need
filled bound line asked ns =
    let lack = missing bound line asked ns in
    if lack == 0 then ns else spread bound (lack / length ns) (lack % length ns) ns

-- the columns that a cell spans, after it: first what they need at least, then what they need at most
abbrev pub spanned_after : ℕ → CellNeed → List Need → List Need
spanned_after line c ns = filled Greatest line c.greatest (filled Least line c.least ns)

-- the columns of the table after a cell
abbrev pub after_cell : ℕ → List Need → CellNeed → List Need
after_cell line ns c =
    let from = drop c.column ns in take c.column ns ++ (spanned_after line c (take c.span from) ++ drop c.span from)

-- whether a cell is of those that span one column, or else of the others
abbrev pub is_of : Bool → CellNeed → Bool
is_of true c = c.span == 1
is_of false c = not (c.span == 1)

-- the columns after those of the cells that span one column, or after the others, each in order
abbrev pub after_cells : ℕ → List CellNeed → Bool → List Need → List Need
after_cells line cells alone ns = fold (after_cell line) ns (filter (is_of alone) cells)

-- what each column needs: the cells that span one column come first, and then the others
abbrev pub needs_of : Table → List Need
needs_of t = after_cells t.line t.cells false (after_cells t.line t.cells true (replicate t.columns unspanned))
