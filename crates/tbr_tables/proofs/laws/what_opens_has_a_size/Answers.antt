use Rattle.tbr_tables.specs.Drawn.{nothing_drawn}
use Rattle.tbr_tables.proofs.Sizes.{sized_run}
use Rattle.tbr_tables.proofs.laws.what_opens_has_a_size.Goals as goal

pub returns : goal.returns
returns c shapes room steps = sized_run shapes 0 (nothing_drawn room) steps tt
