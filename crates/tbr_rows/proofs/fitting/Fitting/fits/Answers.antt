use Rattle.tbr_rows.proofs.Common.{ap, ◌∙◌, [], waiting_cells, fits_with}
use Rattle.tbr_rows.proofs.Fitted.{fits_now}
use Rattle.tbr_rows.proofs.fitting.Fitting.fits.Goals as goal

pub returns : goal.returns
returns g c = fits_now (record { waiting = waiting_cells c.self.inside.first c.self.inside.rest; at = c.self.inside.at; fits = c.self.inside.fits }) ∙ ap (λ f. fits_with f []) c.self.view_is
