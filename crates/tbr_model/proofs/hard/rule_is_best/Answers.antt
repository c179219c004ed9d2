use Rattle.tbr_model.proofs.normal.BestLines.{normal_best}
use Rattle.tbr_model.proofs.hard.rule_is_best.Goals as goal

pub returns : goal.returns
returns g c = normal_best
