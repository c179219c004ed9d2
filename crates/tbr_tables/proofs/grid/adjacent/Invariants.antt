use Rattle.std.proofs.Common.{◌≡◌, ◌+◌, ◌≤◌, drop}
use Rattle.tbr_tables.specs.Grid as model
use Rattle.tbr_tables.proofs.grid.adjacent.Given as goal

abbrev pub invariant-loop-spot : goal.invariant-loop-spot
invariant-loop-spot l = record {
  value : l.count + model.adjacent l.next (drop l.spot-index l.spots) ≡ model.adjacent l.column l.spots;
  within : l.count ≤ l.spot-index;
}
