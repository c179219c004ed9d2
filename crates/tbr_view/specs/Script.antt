-- How a script begins.
use Rattle.std.specs.Prelude.{◌≡◌, ℕ, ◌+◌, false, true, None, Some, List, [], ◌∷◌, ◌++◌, length}
use Rattle.std.specs.List.{AllByRecursion as Each}
use Rattle.tbr_script.specs.Script.{lines_of}
use Rattle.tbr_commands.specs.Read.{opening_read}
use Rattle.tbr_commands.specs.declared.opening.Opening.{Opening}
use Rattle.tbr_statements.specs.Statement.{is_skipped}
use Rattle.tbr_statements.specs.Level.{held}
use Rattle.tbr_statements.specs.Problem.{Tells}
use Rattle.tbr_statements.specs.declared.problem.Kind.TheVariants.{NotACommand}
use Rattle.tbr_statements.specs.declared.problem.Refusal.{Refusal}

-- lines that ask for nothing
abbrev pub AreSkipped : List (List ℕ) → Type 0
AreSkipped lines = Each (λ line. is_skipped line ≡ true) lines

-- The first line that asks for something is the first command. What follows it begins with the line of this number.
pub record Begins (script : List ℕ) (opening : Opening) (number : ℕ) (rest : List ℕ) : Type 0 where
  pub skipped : List (List ℕ)
  pub line : List ℕ
  pub lines : lines_of script ≡ skipped ++ line ∷ lines_of rest
  pub each : AreSkipped skipped
  pub asks : is_skipped line ≡ false
  pub opens : opening_read line ≡ Some opening
  pub counts : number ≡ held (length skipped + 2)

-- no line, or a first one that asks for something and is no first command
abbrev pub BeginNot : List (List ℕ) → Type 0
BeginNot [] = Unit {0}
BeginNot (line ∷ lines) = (is_skipped line ≡ false) × (opening_read line ≡ None)

-- The first line that asks for something is no first command, or there is none. The refusal tells that line, or the one
-- after the last.
pub record BeginsNot (script : List ℕ) (refusal : Refusal) : Type 0 where
  pub skipped : List (List ℕ)
  pub rest : List (List ℕ)
  pub lines : lines_of script ≡ skipped ++ rest
  pub each : AreSkipped skipped
  pub first : BeginNot rest
  pub tells : Tells refusal NotACommand (held (length skipped + 1)) None
