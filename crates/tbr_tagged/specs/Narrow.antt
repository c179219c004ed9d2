-- Characters that are one byte and take one column.
use Rattle.std.specs.Prelude.{◌≡◌, ℕ, ◌<◌, Option, Some, List}
use Rattle.std.specs.List.{AllByRecursion as Each}

-- a character of ASCII that takes one column
abbrev pub IsNarrow : (ℕ → Option ℕ) → ℕ → Type 0
IsNarrow columns c = (c < 128) × (columns c ≡ Some 1)

abbrev pub AreNarrow : (ℕ → Option ℕ) → List ℕ → Type 0
AreNarrow columns cs = Each (IsNarrow columns) cs
