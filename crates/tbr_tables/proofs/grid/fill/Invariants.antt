use Rattle.std.proofs.Common.{◌≡◌, ◌++◌, ◌-◌}
use Rattle.tbr_tables.specs.Grid.{singles}
use Rattle.tbr_tables.proofs.grid.fill.Given as goal

abbrev pub invariant-loop-column : goal.invariant-loop-column
invariant-loop-column l =
    l.spots.items ++ singles l.column (l.to - l.column) ≡ l.initial.spots.items ++ singles l.from (l.to - l.from)
