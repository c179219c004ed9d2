-- What the columns of tables need.
use Rattle.std.specs.Prelude.{ℕ, ◌+◌, ◌-◌, nat_lt, min, max, if◌then◌else◌, Option, None, Some, unwrap_or, List, [], ◌∷◌, ◌++◌, length, take, drop, slice_get, slice_set}
use Rattle.tbr_model.specs.declared.white_space.WhiteSpace.{WhiteSpace}
use Rattle.tbr_model.specs.declared.white_space.WhiteSpace.TheVariants.{Normal}
use Rattle.column_widths.specs.declared.columns.CellNeed.{CellNeed}
use Rattle.column_widths.specs.declared.room.Room.{Room}
use Rattle.column_widths.specs.Widths.{needed_room}
use Rattle.tbr_tables.specs.declared.grid.Spot.{Spot}
use Rattle.tbr_tables.specs.declared.level.Level.{Level}
use Rattle.tbr_tables.specs.declared.shape.Shape.{Shape}
use Rattle.tbr_tables.specs.declared.measured_table.MeasuredTable.{MeasuredTable}
use Rattle.tbr_tables.specs.declared.step.TableCell.{TableCell}
use Rattle.tbr_tables.specs.declared.step.Step.{Step}
use Rattle.tbr_tables.specs.declared.step.Step.TheVariants.{Text, BeginMode, EndMode, EndLine, Border, Inside, Sub, Append, GivenCell, EndGivenCell, GivenRow, VerticalRow, Table, Cell}
use Rattle.tbr_tables.specs.declared.step.Step.TheVariants.{EndCell, Row, EndTable}
use Rattle.tbr_tables.specs.Numbers.{held, next_of, any_width}
use Rattle.tbr_tables.specs.Ruler.{room_of, line_ended, with_lines, after_text}
use Rattle.tbr_tables.specs.Level.{new_level, with_cell, exactly, cells_added}
use Rattle.tbr_tables.specs.Grid.{first_row, passed, spot_for, placed, last_of, row_ended}

-- ---- a table

-- a table without rows, whose columns have a line between two of them
abbrev pub no_shape : Shape
no_shape = record { rows = 0; columns = record { columns = 0; line = 1; cells = [] } }

-- a cell asks for so much, and there are as many columns as it needs
abbrev pub needing : CellNeed → Shape → Shape
needing cell shape = record shape {
  columns = record shape.columns {
    columns = max shape.columns.columns (cell.column + cell.span);
    cells = shape.columns.cells ++ cell ∷ [];
  };
}

-- a table that begins after so many others
abbrev pub new_table : ℕ → MeasuredTable
new_table place = record { place = place; shape = no_shape; grid = first_row }

-- a cell comes, after those from above that are next
abbrev pub cell_placed : TableCell → MeasuredTable → MeasuredTable
cell_placed cell t =
    let grid = passed t.grid in
    record t { grid = placed (spot_for cell.columns cell.rows grid) grid }

-- what a cell at a place asks of its columns
abbrev pub need_at : Spot → Room → CellNeed
need_at spot room = record {
  column = spot.column;
  span = max (spot.end - spot.column) 1;
  least = room.least;
  greatest = room.greatest;
}

-- the cell at a place asks for so much, if there is one
abbrev pub cell_needs : Room → Option Spot → MeasuredTable → MeasuredTable
cell_needs room None t = t
cell_needs room (Some spot) t = record t { shape = needing (need_at spot room) t.shape }

-- the open row ends
abbrev pub table_row_ended : MeasuredTable → MeasuredTable
table_row_ended t = record t { shape = record t.shape { rows = held (t.shape.rows + 1) }; grid = row_ended t.grid }

-- ---- all tables

-- The tables that began, in order, each as known at its end; the innermost table that is open, and the others, the
-- innermost first; the levels likewise; the modes of white space that have begun; and the most columns of a line of
-- text.
pub record Measured : Type 0 where
  pub shapes : List Shape
  pub table : MeasuredTable
  pub tables : List MeasuredTable
  pub level : Level
  pub levels : List Level
  pub modes : List WhiteSpace
  pub wrap : ℕ

-- nothing has come, where lines of text take so many columns at most
abbrev pub nothing_measured : ℕ → Measured
nothing_measured wrap = record {
  shapes = [];
  table = new_table 0;
  tables = [];
  level = new_level any_width wrap 0;
  levels = [];
  modes = [];
  wrap = wrap;
}

-- the mode of white space that is on: the last that began in the innermost level
abbrev pub mode_of : Measured → WhiteSpace
mode_of m =
    if nat_lt m.level.modes (length m.modes) then unwrap_or (slice_get m.modes (length m.modes - 1)) Normal else Normal

-- it ends, if one began there
abbrev pub mode_ended : Measured → Measured
mode_ended m =
    if nat_lt m.level.modes (length m.modes) then record m { modes = take (length m.modes - 1) m.modes } else m

-- a level opens inside, whose lines take so many columns at most
abbrev pub entered : ℕ → Measured → Measured
entered limit m = record m { level = new_level limit m.wrap (length m.modes); levels = m.level ∷ m.levels }

-- the innermost level closes
abbrev pub left : Measured → Measured
left m = record m {
  level = next_of m.level m.levels;
  levels = drop 1 m.levels;
  modes = take m.level.modes m.modes;
}

-- lines come that take this room
abbrev pub lines_come : Room → Measured → Measured
lines_come room m = record m { level = record m.level { ruler = with_lines room m.level.ruler } }

-- lines come after a prefix of so many columns
abbrev pub beside : ℕ → Room → Room
beside prefix room = record { least = held (room.least + prefix); greatest = held (room.greatest + prefix) }

-- a table begins
abbrev pub table_begun : Measured → Measured
table_begun m = record m {
  shapes = m.shapes ++ no_shape ∷ [];
  table = new_table (length m.shapes);
  tables = m.table ∷ m.tables;
}

-- a table ends that takes this room, if one is open
abbrev pub table_left : Room → List MeasuredTable → Measured → Measured
table_left room [] m = m
table_left room (next ∷ rest) m =
    record (lines_come room m) { shapes = slice_set m.shapes m.table.place m.table.shape; table = next; tables = rest }

-- a size that no table has whose size is held
abbrev pub room_or_none : Option Room → Room
room_or_none room = unwrap_or room (exactly 0)

-- What a step makes of it, whose text is this.
abbrev pub measured_after : (ℕ → Option ℕ) → Measured → Step → List ℕ → Measured
measured_after columns m Text text =
    record m { level = record m.level { ruler = after_text columns (mode_of m) text m.level.ruler } }
measured_after columns m (BeginMode mode) text = record m { modes = m.modes ++ mode ∷ [] }
measured_after columns m EndMode text = mode_ended m
measured_after columns m EndLine text = record m { level = record m.level { ruler = line_ended m.level.ruler } }
measured_after columns m (Border width) text = lines_come (exactly width) m
measured_after columns m (Inside prefix) text = entered m.level.ruler.limit m
measured_after columns m (Sub width) text = entered (min width m.level.ruler.limit) m
measured_after columns m (Append prefix) text = lines_come (beside prefix (room_of m.level.ruler)) (left m)
measured_after columns m (GivenCell width align) text = entered width m
measured_after columns m EndGivenCell text =
    let outside = left m in record outside { level = with_cell m.level.ruler.limit outside.level }
measured_after columns m GivenRow text = record m { level = cells_added m.level.row m.level }
measured_after columns m VerticalRow text = record m { level = cells_added m.level.widest m.level }
measured_after columns m Table text = table_begun m
measured_after columns m (Cell cell) text = entered any_width (record m { table = cell_placed cell m.table })
measured_after columns m EndCell text =
    let outside = left m in
    record outside { table = cell_needs (room_of m.level.ruler) (last_of m.table.grid) m.table }
measured_after columns m Row text = record m { table = table_row_ended m.table }
measured_after columns m EndTable text =
    table_left (room_or_none (needed_room m.table.shape.columns)) m.tables m
