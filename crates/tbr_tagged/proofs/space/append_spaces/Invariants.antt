use Rattle.tbr_tagged.proofs.Common.{◌≡◌, ◌++◌, ◌+◌, ◌-◌, ◌≤◌, replicate, string_bytes, string_len}
use Rattle.std.specs.String.{string_capacity}
use Rattle.tbr_tagged.proofs.space.append_spaces.Given as goal

abbrev pub invariant-loop-left : goal.invariant-loop-left
invariant-loop-left l =
    (l.left ≤ l.fn.count)
    × (string_bytes l.text ≡ string_bytes l.fn.text ++ replicate (l.fn.count - l.left) 32)
    × (string_len l.text + l.left ≤ string_capacity l.text)

abbrev pub decreases-loop-left : goal.decreases-loop-left
decreases-loop-left l = l.left
