-- The cells of each table are within its columns.
use Rattle.std.proofs.Common.{ℕ, ◌+◌, ◌-◌, ◌≤◌, max, cond, Option, None, Some, List, [], ◌∷◌, length, take, arith, nat_lt}
use Rattle.std.specs.Prelude.{fold}
use Rattle.std.specs.List.{All, AllByRecursion as Each}
use Rattle.std.proofs.lemmas.List.Elements.{All-nil, All-append, All-set, All-cons, All-weaker}
use Rattle.column_widths.specs.declared.columns.CellNeed.{CellNeed}
use Rattle.column_widths.specs.declared.room.Room.{Room}
use Rattle.column_widths.specs.Table.{IsWithin}
use Rattle.column_widths.specs.Widths.{needed_room}
use Rattle.column_widths.proofs.AnyWidths.{words_fit}
use Rattle.tbr_tables.specs.declared.grid.Spot.{Spot}
use Rattle.tbr_tables.specs.declared.shape.Shape.{Shape}
use Rattle.tbr_tables.specs.declared.measured_table.MeasuredTable.{MeasuredTable}
use Rattle.tbr_tables.specs.declared.step.Step.{Step}
use Rattle.tbr_tables.specs.declared.step.Step.TheVariants.{Text, BeginMode, EndMode, EndLine, Border, Inside, Sub, Append, GivenCell, EndGivenCell, GivenRow, VerticalRow, Table, Cell}
use Rattle.tbr_tables.specs.declared.step.Step.TheVariants.{EndCell, Row, EndTable}
use Rattle.tbr_tables.specs.Ruler.{room_of}
use Rattle.tbr_tables.specs.Grid.{last_of}
use Rattle.tbr_tables.specs.Measured.{Measured, no_shape, needing, need_at, cell_needs, table_left, room_or_none, measured_after}
use Rattle.tbr_tables.specs.Recorded.{Recorded, with_step, nothing_recorded}
use Rattle.tbr_tables.specs.Laws.{WordsFit, shapes_of}
use Rattle.tbr_tables.proofs.Cases.{by_bool}

abbrev pub Fits : Shape → Type 0
Fits shape = All (IsWithin shape.columns.columns) shape.columns.cells

needing_fits : (cell : CellNeed) (shape : Shape) → 1 ≤ cell.span → Fits shape → Fits (needing cell shape)
needing_fits cell shape h fits =
    let columns = shape.columns.columns in
    let wide = max columns (cell.column + cell.span) in
    All-append (IsWithin wide) shape.columns.cells (cell ∷ [])
    (All-weaker (IsWithin columns) (IsWithin wide) (λ c w. let first = w.0 in let end = w.1 in (first, omega (arith, end))) shape.columns.cells fits)
    (All-cons (IsWithin wide) cell [] (h, omega arith) (All-nil (IsWithin wide)))

needs_fit : (room : Room) (spot : Option Spot) (t : MeasuredTable) → Fits t.shape → Fits (cell_needs room spot t).shape
needs_fit room None t h = h
needs_fit room (Some spot) t h = needing_fits (need_at spot room) t.shape (omega arith) h

empty_fits : Fits no_shape
empty_fits = All-nil (IsWithin 0)

-- all tables fit, those that are open too
pub record AllFit (m : Measured) : Type 0 where
  pub shapes : All Fits m.shapes
  pub table : Fits m.table.shape
  pub tables : Each (λ t. Fits t.shape) m.tables

fit_left : (room : Room) (m : Measured) (tables : List MeasuredTable) → Each (λ t. Fits t.shape) tables → AllFit m → AllFit (table_left room tables m)
fit_left room m [] each h = h
fit_left room m (next ∷ rest) each h = record {
  shapes = All-set Fits m.shapes m.table.place m.table.shape h.table h.shapes;
  table = each.0;
  tables = each.1;
}

fit_after : (columns : ℕ → Option ℕ) (m : Measured) (s : Step) (text : List ℕ) → AllFit m → AllFit (measured_after columns m s text)
fit_after columns m Text text h = record { shapes = h.shapes; table = h.table; tables = h.tables }
fit_after columns m (BeginMode mode) text h = record { shapes = h.shapes; table = h.table; tables = h.tables }
fit_after columns m EndMode text h =
    by_bool (λ b. AllFit (cond b (record m { modes = take (length m.modes - 1) m.modes }) m))
    (record { shapes = h.shapes; table = h.table; tables = h.tables }) h (nat_lt m.level.modes (length m.modes))
fit_after columns m EndLine text h = record { shapes = h.shapes; table = h.table; tables = h.tables }
fit_after columns m (Border width) text h = record { shapes = h.shapes; table = h.table; tables = h.tables }
fit_after columns m (Inside prefix) text h = record { shapes = h.shapes; table = h.table; tables = h.tables }
fit_after columns m (Sub width) text h = record { shapes = h.shapes; table = h.table; tables = h.tables }
fit_after columns m (Append prefix) text h = record { shapes = h.shapes; table = h.table; tables = h.tables }
fit_after columns m (GivenCell width align) text h = record { shapes = h.shapes; table = h.table; tables = h.tables }
fit_after columns m EndGivenCell text h = record { shapes = h.shapes; table = h.table; tables = h.tables }
fit_after columns m GivenRow text h = record { shapes = h.shapes; table = h.table; tables = h.tables }
fit_after columns m VerticalRow text h = record { shapes = h.shapes; table = h.table; tables = h.tables }
fit_after columns m Table text h = record {
  shapes = All-append Fits m.shapes (no_shape ∷ []) h.shapes (All-cons Fits no_shape [] empty_fits (All-nil Fits));
  table = empty_fits;
  tables = (h.table, h.tables);
}
fit_after columns m (Cell cell) text h = record { shapes = h.shapes; table = h.table; tables = h.tables }
fit_after columns m EndCell text h = record {
  shapes = h.shapes;
  table = needs_fit (room_of m.level.ruler) (last_of m.table.grid) m.table h.table;
  tables = h.tables;
}
fit_after columns m Row text h = record { shapes = h.shapes; table = h.table; tables = h.tables }
fit_after columns m EndTable text h =
    fit_left (room_or_none (needed_room m.table.shape.columns)) m m.tables h.tables h

fit_run : (columns : ℕ → Option ℕ) (r : Recorded) (steps : List (Step × List ℕ)) → AllFit r.measured →
    AllFit (fold (λ r s. with_step columns r s.0 s.1) r steps).measured
fit_run columns r [] h = h
fit_run columns r (s ∷ ss) h =
    fit_run columns (with_step columns r s.0 s.1) ss (fit_after columns r.measured s.0 s.1 h)

pub all_words_fit : (columns : ℕ → Option ℕ) (wrap : ℕ) (steps : List (Step × List ℕ)) → All WordsFit (shapes_of columns wrap steps)
all_words_fit columns wrap steps =
    let all = fit_run columns (nothing_recorded wrap) steps (record { shapes = All-nil Fits; table = empty_fits; tables = tt }) in
    All-weaker Fits WordsFit (λ shape fits room ws h. words_fit shape.columns room ws fits h)
    (shapes_of columns wrap steps) all.shapes
