use Rattle.callers.proofs.Common.{ℕ, Counted}
use Rattle.callers.proofs.Counts.{HasTaken}
use Rattle.callers.proofs.counter.Counter.take_cells.Given as goal

abbrev pub invariant-loop-cell : goal.invariant-loop-cell
invariant-loop-cell l = HasTaken (λ (x : Counted × ℕ). x.0) l.initial.self l.yielded l.self
