use Rattle.tbr_view.proofs.Common.{◌≡◌, ◌+◌, ◌++◌, ℕ, List, length, lines_of, held, AreSkipped}
use Rattle.tbr_view.proofs.script.first_command.Given as goal

abbrev pub invariant-loop-line : goal.invariant-loop-line
invariant-loop-line l = (skipped : List (List ℕ)) × (lines_of l.fn.lines ≡ skipped ++ lines_of l.lines) × AreSkipped skipped
    × (l.number ≡ held (length skipped + 1))

abbrev pub decreases-loop-line : goal.decreases-loop-line
decreases-loop-line l = length l.lines
