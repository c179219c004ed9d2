-- What the laws of tables speak of.
use Rattle.std.specs.Prelude.{◌≡◌, ℕ, ◌+◌, ◌<◌, ◌≤◌, Bool, true, false, if◌then◌else◌, Option, None, Some, List, [], ◌∷◌, ◌++◌, fold}
use Rattle.std.specs.List.{All}
use Rattle.tbr_tables.specs.declared.grid.Spot.{Spot}
use Rattle.tbr_tables.specs.declared.step.TableCell.{TableCell}
use Rattle.tbr_tables.specs.declared.step.Step.{Step}
use Rattle.tbr_tables.specs.declared.step.Step.TheVariants as step
use Rattle.tbr_tables.specs.declared.drawn.Call.{Call}
use Rattle.tbr_tables.specs.declared.drawn.Call.TheVariants.{Given, Sub, Cell}
use Rattle.tbr_tables.specs.declared.drawn.Drawn.{Drawn}
use Rattle.column_widths.specs.declared.need.Bound.TheVariants.{Least}
use Rattle.column_widths.specs.Widths.{widths}
use Rattle.column_widths.specs.Laws.{HasRoom}
use Rattle.tbr_tables.specs.declared.shape.Shape.{Shape}
use Rattle.tbr_tables.specs.Edges.{edges_from, cell_width}
use Rattle.tbr_tables.specs.Recorded.{recorded}
use Rattle.tbr_tables.specs.Grid.{Grid, first_row, passed, spot_for, placed, row_ended, rest_of_row}

-- ---- steps

-- the places of the steps that are drawn as they are
abbrev pub is_given : Call → Bool
is_given Given = true
is_given other = false

abbrev pub given_of : List Drawn → List ℕ
given_of [] = []
given_of (d ∷ ds) = if is_given d.call then d.step ∷ given_of ds else given_of ds

-- whether a step is drawn as it is: all but those of tables, and blocks whose width a table decides
abbrev pub is_kept : Step → Bool
is_kept (step.Inside prefix) = false
is_kept step.Table = false
is_kept (step.Cell cell) = false
is_kept step.EndCell = false
is_kept step.Row = false
is_kept step.EndTable = false
is_kept other = true

-- the places of such steps, counted from a number
abbrev pub kept_from : ℕ → List Step → List ℕ
kept_from n [] = []
kept_from n (s ∷ ss) = if is_kept s then n ∷ kept_from (n + 1) ss else kept_from (n + 1) ss

-- a cell or a block that opens has a column, and a cell a row
abbrev pub HasSize : Call → Type 0
HasSize (Sub width) = 1 ≤ width
HasSize (Cell cell) = (1 ≤ cell.width) × (1 ≤ cell.rows)
HasSize other = Unit {0}

abbrev pub IsSized : Drawn → Type 0
IsSized d = HasSize d.call

-- ---- rows

-- what cells of a table make of its grid, where nothing stands for the end of a row
abbrev pub moved : Grid → Option TableCell → Grid
moved g None = row_ended g
moved g (Some cell) = let there = passed g in placed (spot_for cell.columns cell.rows there) there

abbrev pub grid_of : List (Option TableCell) → Grid
grid_of moves = fold moved first_row moves

-- cells follow one another from a column up to another, and each has a column
abbrev pub Tiles : ℕ → List Spot → ℕ → Type 0
Tiles column [] end = column ≡ end
Tiles column (s ∷ ss) end = (s.column ≡ column) × (s.column < s.end) × Tiles s.end ss end

-- cells that end at a column, or before it
abbrev pub EndsBy : ℕ → Spot → Type 0
EndsBy end s = s.end ≤ end

-- all cells of the open row of a table of so many columns: those that have come, and what fills it
abbrev pub full_row : ℕ → Grid → List Spot
full_row columns g = g.row ++ rest_of_row columns g

-- ---- words

-- Wherever columns are given widths, each cell has room for its longest word.
abbrev pub WordsFit : Shape → Type 0
WordsFit shape = (room : ℕ) (ws : List ℕ) → widths shape.columns room ≡ Some ws →
    All (HasRoom Least shape.columns.line ws) shape.columns.cells

-- the tables of what is recorded of steps with their texts
abbrev pub shapes_of : (ℕ → Option ℕ) → ℕ → List (Step × List ℕ) → List Shape
shapes_of columns wrap steps = (recorded columns wrap steps).measured.shapes

-- ---- widths

-- the width of a cell between columns of these widths, where its row is in so much room
abbrev pub width_at : List ℕ → ℕ → Spot → ℕ
width_at ws room s = cell_width (Some (edges_from 0 ws)) room s.column s.end
