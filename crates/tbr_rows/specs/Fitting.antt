-- Whether a row fits, found out cell by cell.
use Rattle.std.specs.Prelude.{ℕ, ◌&&◌, Bool, Option, None, Some, List, [], ◌∷◌}
use Rattle.std.specs.Borrow.{Bor}
use Rattle.tbr_rows.specs.declared.line_set.LineSet.{LineSet as Cell}
use Rattle.tbr_rows.specs.Cells.{row_fits, spots_from}

-- The overhanging cells that have found no place yet, the place of the row's next cell, and whether all is well so far.
-- Once no cell waits, the place is no longer counted.
pub record Fitting (A : Type 0) : Type 0 where
  pub waiting : List (Cell A)
  pub at : ℕ
  pub fits : Bool

-- whether the row fits where these cells come next, each by its width and whether nothing is in it
abbrev pub fits_with : {A : Type 0} → Fitting A → List (ℕ × Bool) → Bool
fits_with f cells = f.fits && row_fits f.waiting (spots_from f.at cells)

-- ---- what the fields mean

-- the cells that wait: the first one, and those after it
abbrev pub waiting_cells : {A : Type 0} → Option (Bor (Cell A)) → List (Cell A) → List (Cell A)
waiting_cells None rest = []
waiting_cells (Some c) rest = c.now ∷ rest
