-- A table, as far as the widths of its columns depend on it.
use Rattle.std.specs.Prelude.{ℕ, ◌+◌, ◌≤◌, List}
use Rattle.column_widths.specs.declared.columns.CellNeed.{CellNeed}

-- how many columns it has, how many columns of text a line between two of them takes, and its cells
pub record Table : Type 0 where
  pub columns : ℕ
  pub line : ℕ
  pub cells : List CellNeed

-- the cell spans at least one column, and none beyond the last of so many
abbrev pub IsWithin : ℕ → CellNeed → Type 0
IsWithin columns c = (1 ≤ c.span) × (c.column + c.span ≤ columns)
