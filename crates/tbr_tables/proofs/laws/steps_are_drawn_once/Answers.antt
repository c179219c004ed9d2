use Rattle.tbr_tables.specs.Drawn.{nothing_drawn}
use Rattle.tbr_tables.proofs.EachOnce.{given_run}
use Rattle.tbr_tables.proofs.laws.steps_are_drawn_once.Goals as goal

pub returns : goal.returns
returns c shapes room steps = given_run shapes 0 (nothing_drawn room) steps
