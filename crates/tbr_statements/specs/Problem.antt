-- What is wrong with a script.
use Rattle.std.specs.Prelude.{◌≡◌, ℕ, Option}
use Rattle.std.specs.Option.{option_map}
use Rattle.tbr_statements.specs.declared.problem.Kind.{Kind}
use Rattle.tbr_statements.specs.declared.problem.Kind.TheVariants.{TooNarrow, LinesLost, NotEnded, RowTooWide}
use Rattle.tbr_statements.specs.declared.problem.Related.{Related}
use Rattle.tbr_statements.specs.declared.problem.Problem.{Problem}
use Rattle.tbr_statements.specs.declared.problem.Refusal.{Refusal}
use Rattle.tbr_statements.specs.declared.problem.Refusal.TheVariants.{OutOfMemory, Script}

-- the status with which a program ends that finds a problem of a kind
abbrev pub status_of : Kind → ℕ
status_of LinesLost = 0
status_of NotEnded = 0
status_of RowTooWide = 0
status_of TooNarrow = 1
status_of other = 2

-- the number of the other line
abbrev pub other_line : Related → ℕ
other_line related = related.line

-- a problem of this kind with this line, which has to do with another one, if that is given
abbrev pub IsOf : Problem → Kind → ℕ → Option ℕ → Type 0
IsOf problem kind line other =
    (problem.kind ≡ kind) × (problem.line ≡ line) × (option_map other_line problem.related ≡ other)

-- a refusal that tells such a problem, if memory isn't refused for its texts
abbrev pub Tells : Refusal → Kind → ℕ → Option ℕ → Type 0
Tells OutOfMemory kind line other = Unit {0}
Tells (Script problem) kind line other = IsOf problem kind line other
