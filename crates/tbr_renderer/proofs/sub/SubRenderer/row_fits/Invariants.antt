use Rattle.tbr_renderer.proofs.Common.{◌≡◌, ℕ, Bool, List, ◌++◌, map, take, row_fits, spots_from, fits_with, looks}
use Rattle.tbr_renderer.proofs.sub.SubRenderer.row_fits.Given as goal

abbrev pub invariant-loop-col : goal.invariant-loop-col
invariant-loop-col g l = (more : List (ℕ × Bool)) → fits_with l.fitting more ≡ row_fits l.self.hanging (spots_from 0 (map (looks g.W.CharWidth.columns) (take l.col-index l.col-items) ++ more))
