-- What a line makes of a script.
use Rattle.tbr_program.proofs.Common.{◌≡◌, ℕ, ◌==◌, false, Option, Some, List, [], ◌∷◌, length, sym, ap, false≢true, Decoration, Command, Place, after_command}
use Rattle.std.specs.Prelude.{Bool}
use Rattle.tbr_program.specs.Safe.{shown_command}
use Rattle.tbr_program.specs.Commands.{after_shown_read, after_shown_line}
use Rattle.tbr_commands.specs.Read.{command_read}

module _ {D M : Type 0} (columns : ℕ → Option ℕ) (decoration : Decoration D M) (raw : Bool) (number : ℕ) (p : Place columns decoration) where
  pub commanded : (line : List ℕ) (command : Command) → false ≡ (length line == 0) →
      command_read line ≡ Some command → after_command columns decoration number (shown_command raw command) p ≡
      after_shown_line columns decoration raw number line p
  commanded [] command some is = absurd (false≢true some)
  commanded (b ∷ bs) command some is = ap (λ read. after_shown_read columns decoration raw number read p) (sym is)
