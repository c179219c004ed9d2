use Rattle.tbr_rows.proofs.Common.{rules}
use Rattle.tbr_rows.proofs.MeantRows.{lines_mean, spots_mean, fits_mean}
use Rattle.tbr_rows.proofs.laws.meanings_change_no_place.Goals as goal

pub returns : goal.returns
returns g c = search (rules, lines_mean, spots_mean, fits_mean)
