-- Each step is drawn once, in order.
use Rattle.std.proofs.Common.{◌≡◌, ℕ, ◌+◌, Bool, true, false, cond, List, [], ◌∷◌, ◌++◌, refl, sym, ap, ◌∙◌, append_assoc, append-nil, nat_lt}
use Rattle.std.specs.Prelude.{fold, slice_get, is_some}
use Rattle.std.specs.List.{enumerate_from}
use Rattle.tbr_tables.specs.declared.grid.Spot.{Spot}
use Rattle.tbr_tables.specs.declared.shape.Shape.{Shape}
use Rattle.tbr_tables.specs.declared.step.Step.{Step}
use Rattle.tbr_tables.specs.declared.step.Step.TheVariants.{Text, BeginMode, EndMode, EndLine, Border, Inside, Sub, Append, GivenCell, EndGivenCell, GivenRow, VerticalRow, Table, Cell}
use Rattle.tbr_tables.specs.declared.step.Step.TheVariants.{EndCell, Row, EndTable}
use Rattle.tbr_tables.specs.declared.drawn.Call.{Call}
use Rattle.tbr_tables.specs.declared.drawn.Call.TheVariants as call
use Rattle.tbr_tables.specs.declared.drawn.DrawnCell.{DrawnCell}
use Rattle.tbr_tables.specs.declared.drawn.Drawn.{Drawn}
use Rattle.tbr_tables.specs.Grid.{next_from_above, rest_of_row, spot_for}
use Rattle.tbr_tables.specs.Drawn.{DrawnTable, Drawing, call_at, call_if, empty_cells, before_cell, row_end, table_start, table_end, table_of, table_left, width_in, columns_inside, cell_at}
use Rattle.tbr_tables.specs.Drawn.{drawn_after, above_passed}
use Rattle.tbr_tables.proofs.Cases.{by_bool}
use Rattle.tbr_tables.specs.Laws.{given_of, is_given, is_kept, kept_from}

-- that of calls one after others
given_append : (xs ys : List Drawn) → given_of (xs ++ ys) ≡ given_of xs ++ given_of ys
given_append [] ys = refl
given_append (x ∷ xs) ys =
    let rest = given_append xs ys in
    by_bool (λ b. cond b (x.step ∷ given_of (xs ++ ys)) (given_of (xs ++ ys)) ≡ cond b (x.step ∷ given_of xs) (given_of xs) ++ given_of ys)
    (ap (λ zs. x.step ∷ zs) rest) rest (is_given x.call)

-- calls of which this is known come after others
plus : (xs ys : List Drawn) (zs : List ℕ) → given_of ys ≡ zs → given_of (xs ++ ys) ≡ given_of xs ++ zs
plus xs ys zs h = given_append xs ys ∙ ap (λ ws. given_of xs ++ ws) h

-- calls of tables are none of steps
none_if : (at : ℕ) (b : Bool) (call : Call) → is_given call ≡ false → given_of (call_if at b call) ≡ []
none_if at true call h = rw h refl
none_if at false call h = refl

none_empty : (at : ℕ) (t : DrawnTable) (spots : List Spot) → given_of (empty_cells at t spots) ≡ []
none_empty at t [] = refl
none_empty at t (s ∷ ss) = none_empty at t ss

none_before : (at : ℕ) (t : DrawnTable) → given_of (before_cell at t) ≡ []
none_before at t =
    by_bool (λ b. given_of (cond b (empty_cells at t (next_from_above t.grid)) []) ≡ [])
    (none_empty at t (next_from_above t.grid)) refl (is_some t.edges)

none_row : (at : ℕ) (t : DrawnTable) → given_of (row_end at t) ≡ []
none_row at t =
    let fill = empty_cells at t (rest_of_row t.columns t.grid) in
    by_bool (λ b. given_of (cond b (fill ++ call_at at call.Row ∷ []) (call_if at t.has_cell call.VerticalRow)) ≡ [])
    (plus fill (call_at at call.Row ∷ []) [] refl ∙ ap (λ zs. zs ++ []) (none_empty at t (rest_of_row t.columns t.grid)))
    (none_if at t.has_cell call.VerticalRow refl) (is_some t.edges)

none_start : (at : ℕ) (t : DrawnTable) → given_of (table_start at t) ≡ []
none_start at t =
    let width = width_in t 0 t.columns in
    let inside = call_if at t.level.moves (call.Sub width) in
    let border = call_if at (nat_lt 0 t.columns) (call.Border width) in
    given_append inside border
    ∙ ap (λ zs. zs ++ given_of border) (none_if at t.level.moves (call.Sub width) refl)
    ∙ none_if at (nat_lt 0 t.columns) (call.Border width) refl

none_end : (at : ℕ) (t : DrawnTable) → given_of (table_end at t) ≡ []
none_end at t =
    plus (call_if at t.level.moves call.Append) (call_at at call.EndBlock ∷ []) [] refl
    ∙ ap (λ zs. zs ++ []) (none_if at t.level.moves call.Append refl)

none_cell : (at : ℕ) (t : DrawnTable) (cell : DrawnCell) → given_of (before_cell at t ++ call_at at (call.Cell cell) ∷ []) ≡ []
none_cell at t cell =
    plus (before_cell at t) (call_at at (call.Cell cell) ∷ []) [] refl
    ∙ ap (λ zs. zs ++ []) (none_before at t)

-- the end of a table, if one is open
end_given : (at : ℕ) (d : Drawing) (tables : List DrawnTable) → given_of (table_left at tables d).calls ≡ given_of d.calls ++ []
end_given at d [] = sym (append-nil (given_of d.calls))
end_given at d (next ∷ rest) = plus d.calls (table_end at d.table) [] (none_end at d.table)

-- a step
given_after : (shapes : List Shape) (d : Drawing) (at : ℕ) (s : Step) →
    given_of (drawn_after shapes d at s).calls ≡ given_of d.calls ++ cond (is_kept s) (at ∷ []) []
given_after shapes d at Text = plus d.calls (call_at at call.Given ∷ []) (at ∷ []) refl
given_after shapes d at (BeginMode mode) = plus d.calls (call_at at call.Given ∷ []) (at ∷ []) refl
given_after shapes d at EndMode = plus d.calls (call_at at call.Given ∷ []) (at ∷ []) refl
given_after shapes d at EndLine = plus d.calls (call_at at call.Given ∷ []) (at ∷ []) refl
given_after shapes d at (Border width) = plus d.calls (call_at at call.Given ∷ []) (at ∷ []) refl
given_after shapes d at (Inside prefix) = plus d.calls (call_at at (call.Sub (columns_inside prefix d.level.room)) ∷ []) [] refl
given_after shapes d at (Sub width) = plus d.calls (call_at at call.Given ∷ []) (at ∷ []) refl
given_after shapes d at (Append prefix) = plus d.calls (call_at at call.Given ∷ []) (at ∷ []) refl
given_after shapes d at (GivenCell width align) = plus d.calls (call_at at call.Given ∷ []) (at ∷ []) refl
given_after shapes d at EndGivenCell = plus d.calls (call_at at call.Given ∷ []) (at ∷ []) refl
given_after shapes d at GivenRow = plus d.calls (call_at at call.Given ∷ []) (at ∷ []) refl
given_after shapes d at VerticalRow = plus d.calls (call_at at call.Given ∷ []) (at ∷ []) refl
given_after shapes d at Table =
    let t = table_of d.level (slice_get shapes d.begun) in plus d.calls (table_start at t) [] (none_start at t)
given_after shapes d at (Cell cell) =
    let t = above_passed d.table in
    let drawn = cell_at cell (spot_for cell.columns cell.rows t.grid) t in
    plus d.calls (before_cell at d.table ++ call_at at (call.Cell drawn) ∷ []) [] (none_cell at d.table drawn)
given_after shapes d at EndCell = plus d.calls (call_at at call.EndCell ∷ []) [] refl
given_after shapes d at Row = plus d.calls (row_end at d.table) [] (none_row at d.table)
given_after shapes d at EndTable = end_given at d d.tables

-- the places of the steps that are drawn as they are, the first of them apart
kept_first : (n : ℕ) (zs : List ℕ) (s : Step) (ss : List Step) →
    (zs ++ cond (is_kept s) (n ∷ []) []) ++ kept_from (n + 1) ss ≡ zs ++ kept_from n (s ∷ ss)
kept_first n zs s ss =
    let rest = kept_from (n + 1) ss in
    by_bool (λ b. (zs ++ cond b (n ∷ []) []) ++ rest ≡ zs ++ cond b (n ∷ rest) rest)
    (append_assoc zs (n ∷ []) rest) (ap (λ ys. ys ++ rest) (append-nil zs)) (is_kept s)

-- steps, one after another
pub given_run : (shapes : List Shape) (n : ℕ) (d : Drawing) (steps : List Step) →
    given_of (fold (λ d s. drawn_after shapes d s.0 s.1) d (enumerate_from n steps)).calls ≡ given_of d.calls ++ kept_from n steps
given_run shapes n d [] = sym (append-nil (given_of d.calls))
given_run shapes n d (s ∷ ss) =
    given_run shapes (n + 1) (drawn_after shapes d n s) ss
    ∙ ap (λ zs. zs ++ kept_from (n + 1) ss) (given_after shapes d n s)
    ∙ kept_first n (given_of d.calls) s ss
