use Rattle.std.proofs.Common.{◌≡◌, ◌++◌}
use Rattle.tbr_tagged.specs.View.{chars_of}
use Rattle.tbr_safe.specs.Escaped.{escaped}
use Rattle.tbr_safe.proofs.escapes.push_escaped.Given as goal

abbrev pub invariant-loop-c : goal.invariant-loop-c
invariant-loop-c l = chars_of l.safe ≡ chars_of l.initial.safe ++ escaped l.yielded
