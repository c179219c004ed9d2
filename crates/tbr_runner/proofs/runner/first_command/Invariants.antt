use Rattle.tbr_runner.proofs.Common.{◌≡◌, ℕ, ◌+◌, ◌≤◌, Bool, Option, length, lines_of}
use Rattle.tbr_runner.specs.Scripts.{shown, shown_from}
use Rattle.tbr_runner.proofs.runner.first_command.Given as goal

abbrev pub invariant-loop-line : goal.invariant-loop-line
invariant-loop-line l = record {
  -- the script gives what the rest gives from here
  so_far : (raw : Bool) (columns : ℕ → Option ℕ) → shown raw columns l.fn.lines ≡ shown_from raw columns l.number (lines_of l.lines);
  bound : l.number + length l.lines ≤ length l.fn.lines + 1;
}

abbrev pub decreases-loop-line : goal.decreases-loop-line
decreases-loop-line l = length l.lines
