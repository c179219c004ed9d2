-- What draws tables.
use Rattle.std.specs.Prelude.{ℕ, ◌+◌, ◌-◌, nat_lt, is_some, min, max, Bool, true, false, if◌then◌else◌, Option, None, Some, List, [], ◌∷◌, ◌++◌, drop, fold, flat_map, slice_get, option_map}
use Rattle.std.specs.List.{enumerate_from}
use Rattle.tbr_tagged.specs.declared.CellAlign.{CellAlign}
use Rattle.tbr_tagged.specs.declared.CellAlign.TheVariants.{Left, Right, Centre}
use Rattle.column_widths.specs.Widths.{widths}
use Rattle.tbr_tables.specs.declared.grid.Spot.{Spot}
use Rattle.tbr_tables.specs.declared.shape.Shape.{Shape}
use Rattle.tbr_tables.specs.declared.step.TableCell.{TableCell}
use Rattle.tbr_tables.specs.declared.step.Step.{Step}
use Rattle.tbr_tables.specs.declared.step.Step.TheVariants as step
use Rattle.tbr_tables.specs.declared.drawn.DrawnCell.{DrawnCell}
use Rattle.tbr_tables.specs.declared.drawn.Call.{Call}
use Rattle.tbr_tables.specs.declared.drawn.Call.TheVariants.{Given, StartTable, Border, Sub, Append, Cell, EndCell, Row, VerticalRow, EndBlock}
use Rattle.tbr_tables.specs.declared.drawn.Drawn.{Drawn}
use Rattle.tbr_tables.specs.declared.drawn_table.DrawnLevel.{DrawnLevel}
use Rattle.tbr_tables.specs.Numbers.{held, next_of}
use Rattle.tbr_tables.specs.Grid.{Grid, first_row, next_from_above, passed, spot_for, placed, rest_of_row, row_ended}
use Rattle.tbr_tables.specs.Edges.{edges_from, cell_width}

-- ---- a table

-- A table that is open: where its columns begin, if its cells are side by side; its level; how many columns it has; how
-- many of its rows are to come, the open one included; whether a cell began in that; and its grid.
pub record DrawnTable : Type 0 where
  pub edges : Option (List ℕ)
  pub level : DrawnLevel
  pub columns : ℕ
  pub rows : ℕ
  pub has_cell : Bool
  pub grid : Grid

-- a table without rows in a level
abbrev pub no_table : DrawnLevel → DrawnTable
no_table level =
    record { edges = None; level = level; columns = 0; rows = 0; has_cell = false; grid = first_row }

-- a table of a shape in a level
abbrev pub table_of : DrawnLevel → Option Shape → DrawnTable
table_of level None = no_table level
table_of level (Some shape) = record (no_table level) {
  edges = option_map (edges_from 0) (widths shape.columns level.room);
  columns = shape.columns.columns;
  rows = shape.rows;
}

-- the columns that it has between two of its columns
abbrev pub width_in : DrawnTable → ℕ → ℕ → ℕ
width_in t column end = cell_width t.edges t.level.room column end

-- a cell comes
abbrev pub with_cell : TableCell → DrawnTable → DrawnTable
with_cell cell t =
    record t { has_cell = true; grid = placed (spot_for cell.columns cell.rows t.grid) t.grid }

abbrev pub cell_at : TableCell → Spot → DrawnTable → DrawnCell
cell_at cell spot t = record {
  width = width_in t spot.column spot.end;
  rows = max (min spot.rows t.rows) 1;
  align = cell.align;
}

-- cells from above that are next come
abbrev pub above_passed : DrawnTable → DrawnTable
above_passed t = record t { grid = passed t.grid }

-- the open row ends
abbrev pub row_left : DrawnTable → DrawnTable
row_left t = record t { rows = t.rows - 1; has_cell = false; grid = row_ended t.grid }

-- ---- calls

-- a call for the step at a place
abbrev pub call_at : ℕ → Call → Drawn
call_at at call = record { step = at; call = call }

abbrev pub call_if : ℕ → Bool → Call → List Drawn
call_if at true call = call_at at call ∷ []
call_if at false call = []

-- an empty cell at a place
abbrev pub empty_cell : ℕ → DrawnTable → Spot → List Drawn
empty_cell at t spot =
    call_at at (Cell record { width = width_in t spot.column spot.end; rows = 1; align = Left })
    ∷ call_at at EndCell ∷ []

abbrev pub empty_cells : ℕ → DrawnTable → List Spot → List Drawn
empty_cells at t spots = flat_map (empty_cell at t) spots

-- what is drawn before a cell, if cells are side by side: those from above that are next, without text
abbrev pub before_cell : ℕ → DrawnTable → List Drawn
before_cell at t = if is_some t.edges then empty_cells at t (next_from_above t.grid) else []

-- what ends a row: what fills it, and the row, or the cells one below another, if there are some
abbrev pub row_end : ℕ → DrawnTable → List Drawn
row_end at t =
    if is_some t.edges then empty_cells at t (rest_of_row t.columns t.grid) ++ call_at at Row ∷ []
    else call_if at t.has_cell VerticalRow

-- What begins a table and ends it: a block, and inside a further one, if the level is moved to the right, which makes
-- text of the borders; and the first border.
abbrev pub table_start : ℕ → DrawnTable → List Drawn
table_start at t =
    let width = width_in t 0 t.columns in
    call_at at StartTable ∷ (call_if at t.level.moves (Sub width) ++ call_if at (nat_lt 0 t.columns) (Border width))

abbrev pub table_end : ℕ → DrawnTable → List Drawn
table_end at t = call_if at t.level.moves Append ++ call_at at EndBlock ∷ []

-- ---- all tables

-- The calls so far, how many tables began, the innermost table that is open, and the others, the innermost first; the
-- levels likewise.
pub record Drawing : Type 0 where
  pub calls : List Drawn
  pub begun : ℕ
  pub table : DrawnTable
  pub tables : List DrawnTable
  pub level : DrawnLevel
  pub levels : List DrawnLevel

-- a level of so many columns
abbrev pub level_of : ℕ → Bool → DrawnLevel
level_of room moves = record { room = room; moves = moves }

-- nothing, in so many columns
abbrev pub nothing_drawn : ℕ → Drawing
nothing_drawn room = record {
  calls = [];
  begun = 0;
  table = no_table (level_of room false);
  tables = [];
  level = level_of room false;
  levels = [];
}

-- calls come
abbrev pub adding : List Drawn → Drawing → Drawing
adding calls d = record d { calls = d.calls ++ calls }

-- a level opens inside
abbrev pub entered : ℕ → Bool → Drawing → Drawing
entered room moves d = record d { level = level_of room moves; levels = d.level ∷ d.levels }

-- the innermost level closes
abbrev pub left : Drawing → Drawing
left d = record d { level = next_of d.level d.levels; levels = drop 1 d.levels }

-- whether lines are moved to the right
abbrev pub is_moved : CellAlign → Bool
is_moved Left = false
is_moved Right = true
is_moved Centre = true

-- a table begins, of this shape, if there is one
abbrev pub table_begun_of : ℕ → Option Shape → Drawing → Drawing
table_begun_of at shape d =
    let t = table_of d.level shape in
    record (adding (table_start at t) d) { begun = held (d.begun + 1); table = t; tables = d.table ∷ d.tables }

-- a table begins, of the next shape
abbrev pub table_begun : ℕ → List Shape → Drawing → Drawing
table_begun at shapes d = table_begun_of at (slice_get shapes d.begun) d

-- a cell of the innermost table opens
abbrev pub cell_begun : ℕ → TableCell → Drawing → Drawing
cell_begun at cell d =
    let t = above_passed d.table in
    let drawn = cell_at cell (spot_for cell.columns cell.rows t.grid) t in
    entered drawn.width (is_moved cell.align)
    (record (adding (before_cell at d.table ++ call_at at (Cell drawn) ∷ []) d) { table = with_cell cell t })

-- the innermost table ends, if one is open
abbrev pub table_left : ℕ → List DrawnTable → Drawing → Drawing
table_left at [] d = d
table_left at (next ∷ rest) d = record (adding (table_end at d.table) d) { table = next; tables = rest }

-- a step that is drawn as it is
abbrev pub given : ℕ → Drawing → Drawing
given at d = adding (call_at at Given ∷ []) d

-- the columns that a prefix leaves, at least 1
abbrev pub columns_inside : ℕ → ℕ → ℕ
columns_inside prefix room = max (room - prefix) 1

-- What the step at a place draws.
abbrev pub drawn_after : List Shape → Drawing → ℕ → Step → Drawing
drawn_after shapes d at (step.Inside prefix) =
    let columns = columns_inside prefix d.level.room in
    entered columns false (adding (call_at at (Sub columns) ∷ []) d)
drawn_after shapes d at (step.Sub width) = entered width false (given at d)
drawn_after shapes d at (step.Append prefix) = left (given at d)
drawn_after shapes d at (step.GivenCell width align) = entered width (is_moved align) (given at d)
drawn_after shapes d at step.EndGivenCell = left (given at d)
drawn_after shapes d at step.Table = table_begun at shapes d
drawn_after shapes d at (step.Cell cell) = cell_begun at cell d
drawn_after shapes d at step.EndCell = left (adding (call_at at EndCell ∷ []) d)
drawn_after shapes d at step.Row = record (adding (row_end at d.table) d) { table = row_left d.table }
drawn_after shapes d at step.EndTable = table_left at d.tables d
drawn_after shapes d at other = given at d

-- What steps draw, one after another, in so many columns.
abbrev pub drawing_of : List Shape → ℕ → List Step → Drawing
drawing_of shapes room steps =
    fold (λ d s. drawn_after shapes d s.0 s.1) (nothing_drawn room) (enumerate_from 0 steps)

abbrev pub drawn : List Shape → ℕ → List Step → List Drawn
drawn shapes room steps = (drawing_of shapes room steps).calls
