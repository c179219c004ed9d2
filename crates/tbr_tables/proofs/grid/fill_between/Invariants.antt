use Rattle.std.proofs.Common.{◌≡◌, ◌++◌, drop}
use Rattle.tbr_tables.specs.Grid as model
use Rattle.tbr_tables.proofs.grid.fill_between.Given as goal

abbrev pub invariant-loop-spot : goal.invariant-loop-spot
invariant-loop-spot l = record {
  cells : l.spots.items ++ model.between l.column (drop l.spot-index l.above)
      ≡ l.initial.spots.items ++ model.between l.from l.above;
  end : model.end_of l.column (drop l.spot-index l.above) ≡ model.end_of l.from l.above;
}
