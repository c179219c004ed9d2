use Rattle.std.proofs.Common.{ℕ, ◌≢◌, ◌<◌, ◌-◌, get_or, length}
use Rattle.tbr_commands.proofs.spaces.first_space.Given as goal

abbrev pub invariant-loop-at : goal.invariant-loop-at
invariant-loop-at l = (i : ℕ) → i < l.at → get_or l.bytes i 0 ≢ 32

abbrev pub decreases-loop-at : goal.decreases-loop-at
decreases-loop-at l = length l.bytes - l.at
