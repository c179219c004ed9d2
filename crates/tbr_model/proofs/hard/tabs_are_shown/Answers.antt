use Rattle.tbr_model.proofs.rule.PreservingModes.{tabs_shown}
use Rattle.tbr_model.proofs.hard.tabs_are_shown.Goals as goal

pub returns : goal.returns
returns g c = tabs_shown
