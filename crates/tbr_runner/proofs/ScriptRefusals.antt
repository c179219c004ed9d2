-- But for memory, what a line or the end of a script is refused with, the script itself gives.
use Rattle.tbr_runner.proofs.Common.{◌≡◌, ◌≢◌, ℕ, Bool, true, false, Option, Some, None, List, [], ◌∷◌, Result, Err, IfErr, refl, sym, subst, Decoration, IsOfScript, RunError, OutOfMemory}
use Rattle.tbr_runner.proofs.Common.{NotACommand, Place, Command, IsCommand, ask, link, end_link, sub, append, cell, end_cell, vertical_row, command_read, after_line, ended}
use Rattle.tbr_commands.specs.Command.{row}
use Rattle.tbr_commands.proofs.Reading.{read_command}
use Rattle.tbr_program.specs.Safe.{shown_command}
use Rattle.tbr_program.specs.Commands.{after_shown_line, after_shown_read}
use Rattle.tbr_script.specs.declared.error.RunError.TheVariants.{TooNarrow}
use Rattle.tbr_runner.proofs.Walks.{Meets, Asks, end_meets}
use Rattle.tbr_runner.proofs.ScriptLevels.{Sized, sized, each_any, line_waits, command_waits}

pub if_err_is : {X E : Type 0} (P : E → Type 0) (r : Result X E) (y : E) → r ≡ Err y → P y → IfErr r P
if_err_is P r y is h = subst (λ q. IfErr q P) (sym is) h

-- where anything may be too narrow
of_script : {X : Type 0} (Is : X → Type 0) (m : Result X RunError) (e : RunError) → m ≡ Err e → Meets (Unit {0}) Is m → e ≢ OutOfMemory → IsOfScript e
of_script Is m e is h = go e (subst (Meets (Unit {0}) Is) is h)
  where
    go : (e : RunError) → Meets (Unit {0}) Is (Err e) → e ≢ OutOfMemory → IsOfScript e
    go TooNarrow h other = tt
    go OutOfMemory h other = absurd (other refl)
    go e h other = h

module _ {D M : Type 0} (columns : ℕ → Option ℕ) (decoration : Decoration D M) where
  -- a command that is shown otherwise asks for the same widths
  shown_sized : (raw : Bool) (command : Command) → Asks columns decoration Sized command → Asks columns decoration Sized (shown_command raw command)
  shown_sized true command asks = asks
  shown_sized false (ask request) asks = asks
  shown_sized false (link target) asks = asks
  shown_sized false end_link asks = asks
  shown_sized false (sub width) asks = asks
  shown_sized false (append first others) asks = asks
  shown_sized false (cell width span align) asks = asks
  shown_sized false end_cell asks = asks
  shown_sized false (row collapse) asks = asks
  shown_sized false vertical_row asks = asks

module _ {D M : Type 0} (columns : ℕ → Option ℕ) (decoration : Decoration D M) (number : ℕ) where
  pub line_of_script : (p : Place columns decoration) (line : List ℕ) (e : RunError) → after_line columns decoration number line p ≡ Err e → e ≢ OutOfMemory → IsOfScript e
  line_of_script p line e is =
      of_script _ _ e is (line_waits columns decoration (λ r. Unit {0}) p number line (λ command asks ends r top. tt) (each_any _ (λ c. tt) _) (each_any _ (λ o. each_any _ (λ c. tt) _) p.opened))

  pub end_of_script : (p : Place columns decoration) (e : RunError) → ended columns decoration number p ≡ Err e → e ≢ OutOfMemory → IsOfScript e
  end_of_script p e is = of_script _ _ e is (end_meets columns decoration (Unit {0}) number p (λ r top narrow. tt))

  pub shown_line_of_script : (raw : Bool) (p : Place columns decoration) (line : List ℕ) (e : RunError) → after_shown_line columns decoration raw number line p ≡ Err e → e ≢ OutOfMemory → IsOfScript e
  shown_line_of_script raw p [] e is other = absurd (let no : ⊥ = cc is in no)
  shown_line_of_script raw p (b ∷ bs) e is other = go (command_read (b ∷ bs)) (read_command (b ∷ bs)) is
    where
      go : (read : Option Command) → ((command : Command) → read ≡ Some command → IsCommand (b ∷ bs) command) → after_shown_read columns decoration raw number read p ≡ Err e → IsOfScript e
      go None reads is = of_script {X = Place columns decoration} (λ _. ⊥) (Err (NotACommand number)) e is tt other
      go (Some command) reads is =
          of_script _ _ e is (command_waits columns decoration p number (shown_command raw command)
          (shown_sized columns decoration raw command (sized columns decoration (b ∷ bs) command (reads command refl)))) other
