use Rattle.std.proofs.Common.{length}
use Rattle.tbr_statements.proofs.fault.bad_escape.Given as goal

abbrev pub decreases-loop-after : goal.decreases-loop-after
decreases-loop-after l = length l.rest
