-- What opens has a size.
use Rattle.std.proofs.Common.{ℕ}
use Rattle.std.specs.List.{AllByRecursion as Each}
use Rattle.tbr_tables.specs.Drawn.{nothing_drawn}
use Rattle.tbr_tables.specs.Laws.{IsSized}
use Rattle.tbr_tables.specs.Recorded.{Recorded, calls_in}
use Rattle.tbr_tables.proofs.Sizes.{sized_run}

pub calls_sized : (room : ℕ) (r : Recorded) → Each IsSized (calls_in room r)
calls_sized room r = sized_run r.measured.shapes 0 (nothing_drawn room) r.steps tt
