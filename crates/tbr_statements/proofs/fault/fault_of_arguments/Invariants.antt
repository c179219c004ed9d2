use Rattle.std.proofs.Common.{length}
use Rattle.tbr_statements.proofs.fault.fault_of_arguments.Given as goal

abbrev pub decreases-loop-column : goal.decreases-loop-column
decreases-loop-column l = length l.words.words
