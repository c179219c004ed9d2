use Rattle.std.proofs.Common.{◌<◌}
use Rattle.std.specs.List.{AllByRecursion as Each}
use Rattle.test_calls.proofs.inside.columns.Given as goal

abbrev pub invariant-loop-cell : goal.invariant-loop-cell
invariant-loop-cell g l = Each (λ col. 0 < col.1) l.cols.items
