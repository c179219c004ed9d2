use Rattle.std.proofs.Common.{length}
use Rattle.tbr_statements.proofs.fault.fault_of_options.Given as goal

abbrev pub decreases-loop-column : goal.decreases-loop-column
decreases-loop-column l = length l.words.words
