-- What the laws of the widths speak of.
use Rattle.std.specs.Prelude.{ℕ, ◌+◌, ◌-◌, ◌*◌, ◌≤◌, map, slice_index, slice_range, sum, sum_by, List}
use Rattle.column_widths.specs.declared.columns.CellNeed.{CellNeed}
use Rattle.column_widths.specs.declared.need.Need.{Need}
use Rattle.column_widths.specs.declared.need.Bound.{Bound}
use Rattle.column_widths.specs.declared.need.Bound.TheVariants.{Least, Greatest}
use Rattle.column_widths.specs.Table.{Table}
use Rattle.column_widths.specs.Needs.{width_of, needs_of}
use Rattle.column_widths.specs.Widths.{lines_of}

-- the room that a table takes where each column has what it needs at least, or at most, lines included
abbrev pub room_of : Bound → Table → ℕ
room_of bound t = sum_by (width_of bound) (needs_of t) + lines_of t

-- what the column at a place needs at least, or at most
abbrev pub need_at : Bound → Table → ℕ → ℕ
need_at bound t place = slice_index (map (width_of bound) (needs_of t)) place

-- the width is not below what a column needs at least, and not above what it needs at most
abbrev pub IsWithinNeed : Need → ℕ → Type 0
IsWithinNeed n width = (n.least ≤ width) × (width ≤ n.greatest)

-- what a cell asks: its longest word, or its widest line
abbrev pub asked_by : Bound → CellNeed → ℕ
asked_by Least c = c.least
asked_by Greatest c = c.greatest

-- the columns that a cell spans, and the lines between them, have room for what it asks
abbrev pub HasRoom : Bound → ℕ → List ℕ → CellNeed → Type 0
HasRoom bound line widths c =
    asked_by bound c ≤ sum (slice_range widths c.column (c.column + c.span)) + line * (c.span - 1)
