-- With which status the program ends.
use Rattle.std.specs.Prelude.{ℕ}
use Rattle.tbr_statements.specs.Problem.{status_of}
use Rattle.tbr_statements.specs.declared.problem.Refusal.{Refusal}
use Rattle.tbr_statements.specs.declared.problem.Refusal.TheVariants.{OutOfMemory, Script}

-- the status where a script isn't shown
abbrev pub status_of_refusal : Refusal → ℕ
status_of_refusal OutOfMemory = 1
status_of_refusal (Script problem) = status_of problem.kind
