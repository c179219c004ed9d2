use Rattle.std.proofs.Common.{◌≡◌, ◌++◌, take}
use Rattle.tbr_tables.specs.Grid.{carried}
use Rattle.tbr_tables.proofs.grid.carry.Given as goal

abbrev pub invariant-loop-spot : goal.invariant-loop-spot
invariant-loop-spot l = l.above.items ≡ l.initial.above.items ++ carried (take l.spot-index l.spots)
