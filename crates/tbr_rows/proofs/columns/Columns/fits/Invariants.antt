use Rattle.tbr_rows.proofs.Common.{◌≡◌, ℕ, Bool, List, ◌++◌, map, take, look, row_fits, spots_from, fits_with}
use Rattle.tbr_rows.proofs.columns.Columns.fits.Given as goal

abbrev pub invariant-loop-cell : goal.invariant-loop-cell
invariant-loop-cell g l =
    (more : List (ℕ × Bool)) → fits_with l.fitting more ≡ row_fits l.hanging (spots_from 0 (map look (take l.cell-index l.cell-items) ++ more))
