use Rattle.tbr_model.proofs.maps.Words.{trailing-map}
use Rattle.tbr_model.proofs.maps.Layouts.{best-map}
use Rattle.tbr_model.proofs.mapped.annotations_change_no_layout.Goals as goal

pub returns-clause-trailing : goal.returns-clause-trailing
returns-clause-trailing g c = trailing-map

pub returns-clause-best : goal.returns-clause-best
returns-clause-best g c = best-map
