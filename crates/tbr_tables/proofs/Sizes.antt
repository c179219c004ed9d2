-- What opens has a size.
use Rattle.std.proofs.Common.{ℕ, ◌+◌, ◌≤◌, Bool, true, false, cond, Option, None, Some, List, [], ◌∷◌, ◌++◌, arith, nat_lt}
use Rattle.std.specs.Prelude.{fold, slice_get, is_some}
use Rattle.std.specs.List.{enumerate_from, AllByRecursion as Each}
use Rattle.tbr_tables.specs.declared.grid.Spot.{Spot}
use Rattle.tbr_tables.specs.declared.shape.Shape.{Shape}
use Rattle.tbr_tables.specs.declared.step.TableCell.{TableCell}
use Rattle.tbr_tables.specs.declared.step.Step.{Step}
use Rattle.tbr_tables.specs.declared.step.Step.TheVariants.{Text, BeginMode, EndMode, EndLine, Border, Inside, Sub, Append, GivenCell, EndGivenCell, GivenRow, VerticalRow, Table, Cell}
use Rattle.tbr_tables.specs.declared.step.Step.TheVariants.{EndCell, Row, EndTable}
use Rattle.tbr_tables.specs.declared.drawn.Call.{Call}
use Rattle.tbr_tables.specs.declared.drawn.Call.TheVariants as call
use Rattle.tbr_tables.specs.declared.drawn.Drawn.{Drawn}
use Rattle.tbr_tables.specs.Edges.{cell_width}
use Rattle.tbr_tables.specs.Grid.{next_from_above, rest_of_row, spot_for}
use Rattle.tbr_tables.specs.Drawn.{DrawnTable, Drawing, call_at, call_if, empty_cells, before_cell, row_end, table_start, table_end, table_of, table_left, width_in, columns_inside, cell_at}
use Rattle.tbr_tables.specs.Drawn.{drawn_after, above_passed}
use Rattle.tbr_tables.specs.Laws.{IsSized, HasSize}
use Rattle.tbr_tables.proofs.Cases.{by_bool}

abbrev Are : List Drawn → Type 0
Are calls = Each IsSized calls

sized_append : (xs ys : List Drawn) → Are xs → Are ys → Are (xs ++ ys)
sized_append [] ys h g = g
sized_append (x ∷ xs) ys h g = (h.0, sized_append xs ys h.1 g)

width_seen : (edges : Option (List ℕ)) (room column end : ℕ) → 1 ≤ cell_width edges room column end
width_seen None room column end = omega arith
width_seen (Some edges) room column end = omega arith

sized_if : (at : ℕ) (b : Bool) (c : Call) → HasSize c → Are (call_if at b c)
sized_if at true c h = (h, tt)
sized_if at false c h = tt

sized_empty : (at : ℕ) (t : DrawnTable) (spots : List Spot) → Are (empty_cells at t spots)
sized_empty at t [] = tt
sized_empty at t (s ∷ ss) =
    ((width_seen t.edges t.level.room s.column s.end, omega arith), (tt, sized_empty at t ss))

sized_before : (at : ℕ) (t : DrawnTable) → Are (before_cell at t)
sized_before at t =
    by_bool (λ b. Are (cond b (empty_cells at t (next_from_above t.grid)) []))
    (sized_empty at t (next_from_above t.grid)) tt (is_some t.edges)

sized_row : (at : ℕ) (t : DrawnTable) → Are (row_end at t)
sized_row at t =
    let fill = empty_cells at t (rest_of_row t.columns t.grid) in
    by_bool (λ b. Are (cond b (fill ++ call_at at call.Row ∷ []) (call_if at t.has_cell call.VerticalRow)))
    (sized_append fill (call_at at call.Row ∷ []) (sized_empty at t (rest_of_row t.columns t.grid)) (tt, tt))
    (sized_if at t.has_cell call.VerticalRow tt) (is_some t.edges)

sized_start : (at : ℕ) (t : DrawnTable) → Are (table_start at t)
sized_start at t =
    let width = width_in t 0 t.columns in
    let inside = call_if at t.level.moves (call.Sub width) in
    let border = call_if at (nat_lt 0 t.columns) (call.Border width) in (
      tt,
      sized_append inside border
          (sized_if at t.level.moves (call.Sub width) (width_seen t.edges t.level.room 0 t.columns))
          (sized_if at (nat_lt 0 t.columns) (call.Border width) tt),
    )

sized_end : (at : ℕ) (t : DrawnTable) → Are (table_end at t)
sized_end at t =
    sized_append (call_if at t.level.moves call.Append) (call_at at call.EndBlock ∷ [])
    (sized_if at t.level.moves call.Append tt) (tt, tt)

cell_sized : (at : ℕ) (cell : TableCell) (s : Spot) (t : DrawnTable) → Are (call_at at (call.Cell (cell_at cell s t)) ∷ [])
cell_sized at cell s t = ((width_seen t.edges t.level.room s.column s.end, omega arith), tt)

end_sized : (at : ℕ) (d : Drawing) (tables : List DrawnTable) → Are d.calls → Are (table_left at tables d).calls
end_sized at d [] h = h
end_sized at d (next ∷ rest) h = sized_append d.calls (table_end at d.table) h (sized_end at d.table)

given_sized : (at : ℕ) (d : Drawing) → Are d.calls → Are (d.calls ++ call_at at call.Given ∷ [])
given_sized at d h = sized_append d.calls (call_at at call.Given ∷ []) h (tt, tt)

sized_after : (shapes : List Shape) (d : Drawing) (at : ℕ) (s : Step) → Are d.calls → Are (drawn_after shapes d at s).calls
sized_after shapes d at Text h = given_sized at d h
sized_after shapes d at (BeginMode mode) h = given_sized at d h
sized_after shapes d at EndMode h = given_sized at d h
sized_after shapes d at EndLine h = given_sized at d h
sized_after shapes d at (Border width) h = given_sized at d h
sized_after shapes d at (Inside prefix) h =
    sized_append d.calls (call_at at (call.Sub (columns_inside prefix d.level.room)) ∷ []) h (omega arith, tt)
sized_after shapes d at (Sub width) h = given_sized at d h
sized_after shapes d at (Append prefix) h = given_sized at d h
sized_after shapes d at (GivenCell width align) h = given_sized at d h
sized_after shapes d at EndGivenCell h = given_sized at d h
sized_after shapes d at GivenRow h = given_sized at d h
sized_after shapes d at VerticalRow h = given_sized at d h
sized_after shapes d at Table h =
    let t = table_of d.level (slice_get shapes d.begun) in sized_append d.calls (table_start at t) h (sized_start at t)
sized_after shapes d at (Cell cell) h =
    let t = above_passed d.table in
    let spot = spot_for cell.columns cell.rows t.grid in
    let one = call_at at (call.Cell (cell_at cell spot t)) ∷ [] in
    sized_append d.calls (before_cell at d.table ++ one) h
    (sized_append (before_cell at d.table) one (sized_before at d.table) (cell_sized at cell spot t))
sized_after shapes d at EndCell h = sized_append d.calls (call_at at call.EndCell ∷ []) h (tt, tt)
sized_after shapes d at Row h = sized_append d.calls (row_end at d.table) h (sized_row at d.table)
sized_after shapes d at EndTable h = end_sized at d d.tables h

-- steps, one after another
pub sized_run : (shapes : List Shape) (n : ℕ) (d : Drawing) (steps : List Step) → Are d.calls →
    Are (fold (λ d s. drawn_after shapes d s.0 s.1) d (enumerate_from n steps)).calls
sized_run shapes n d [] h = h
sized_run shapes n d (s ∷ ss) h = sized_run shapes (n + 1) (drawn_after shapes d n s) ss (sized_after shapes d n s h)
