use Rattle.std.proofs.Common.{◌≡◌, map}
use Rattle.tbr_tagged.specs.View.{chars_of}
use Rattle.tbr_safe.specs.Escaped.{escaped}
use Rattle.tbr_safe.proofs.escapes.escape_all.Given as goal

abbrev pub invariant-loop-text : goal.invariant-loop-text
invariant-loop-text l = map chars_of l.safe.items ≡ map escaped (map chars_of l.yielded)
