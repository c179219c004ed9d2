use Rattle.std.proofs.Common.{◌≡◌, take}
use Rattle.tbr_statements.specs.Level.{outside_too_wide}
use Rattle.tbr_statements.proofs.level.Levels.too_wide.Given as goal

abbrev pub invariant-loop-level : goal.invariant-loop-level
invariant-loop-level l = l.found ≡ outside_too_wide (take l.level-index l.level-items)
