use Rattle.callers.proofs.Common.{◌≡◌, ◌++◌, length, left}
use Rattle.callers.proofs.Walks.{HasTaken}
use Rattle.callers.proofs.line_by_line.line_by_line.Given as goal

abbrev pub invariant-loop-lines : goal.invariant-loop-lines
invariant-loop-lines g l = HasTaken g.W.CharWidth.columns g.T.PartialEq.eq l.initial.block l.block l.lines.items

abbrev pub decreases-loop-lines : goal.decreases-loop-lines
decreases-loop-lines g l = length (left g.W.CharWidth.columns l.block)

abbrev pub invariant-loop-line : goal.invariant-loop-line
invariant-loop-line g l = l.lines.items ≡ l.initial.lines.items ++ l.yielded
