-- Where the columns of a table begin.
use Rattle.std.specs.Prelude.{ℕ, ◌+◌, ◌-◌, max, Option, None, Some, List, [], ◌∷◌, slice_index_or}

-- where columns of these widths begin from here on, with a line between two, and where one after the last would
abbrev pub edges_from : ℕ → List ℕ → List ℕ
edges_from edge [] = edge ∷ []
edges_from edge (width ∷ widths) = edge ∷ edges_from (edge + width + 1) widths

-- the columns of text from one column up to another, without the line at its end
abbrev pub width_between : List ℕ → ℕ → ℕ → ℕ
width_between edges column end = slice_index_or edges end 0 - slice_index_or edges column 0 - 1

-- the width of a cell in so much room, at least 1: that of its columns, or all, where cells go one below another
abbrev pub cell_width : Option (List ℕ) → ℕ → ℕ → ℕ → ℕ
cell_width None room column end = max room 1
cell_width (Some edges) room column end = max (width_between edges column end) 1
