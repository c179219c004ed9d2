-- Requests as they are shown.
use Rattle.tbr_program.proofs.Common.{◌≡◌, true, false, refl, ask, Request}
use Rattle.std.specs.Prelude.{ℕ, Bool, List}
use Rattle.tbr_commands.specs.Command.{link}
use Rattle.tbr_program.specs.Safe.{shown_command}

-- a request is shown as it is
pub requested : (raw : Bool) (request : Request) → ask request ≡ shown_command raw (ask request)
requested true request = refl
requested false request = refl

-- and so is the beginning of a link
pub linked : (raw : Bool) (target : List ℕ) → link target ≡ shown_command raw (link target)
linked true target = refl
linked false target = refl
