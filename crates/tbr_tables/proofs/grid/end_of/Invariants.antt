use Rattle.std.proofs.Common.{◌≡◌, drop}
use Rattle.tbr_tables.specs.Grid as model
use Rattle.tbr_tables.proofs.grid.end_of.Given as goal

abbrev pub invariant-loop-spot : goal.invariant-loop-spot
invariant-loop-spot l = model.end_of l.end (drop l.spot-index l.spots) ≡ model.end_of l.column l.spots
