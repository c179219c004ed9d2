use Rattle.tbr_model.proofs.Common.{ℕ, ◌<◌, ◌≤◌, length, slot_values}
use Rattle.tbr_model.proofs.layouts.LongestLines.{EndsLine}
use Rattle.tbr_model.proofs.best.longest_line.Given as goal

abbrev pub invariant-loop-last : goal.invariant-loop-last
invariant-loop-last g l = (e : ℕ) → l.last < e → e ≤ length l.slots → ¬ EndsLine l.width (slot_values l.slots) e
