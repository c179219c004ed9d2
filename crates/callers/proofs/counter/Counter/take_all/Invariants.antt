use Rattle.callers.proofs.Common.{Counted}
use Rattle.callers.proofs.Counts.{HasTaken}
use Rattle.callers.proofs.counter.Counter.take_all.Given as goal

abbrev pub invariant-loop-other : goal.invariant-loop-other
invariant-loop-other l = HasTaken (λ (x : Counted). x) l.initial.self l.yielded l.self
