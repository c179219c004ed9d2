-- Refusals that are kept.
use Rattle.tbr_c.proofs.Common.{◌≡◌, ◌≢◌, None, TooNarrow}
use Rattle.tbr_script.specs.declared.error.RunError.{RunError}
use Rattle.tbr_script.specs.declared.error.RunError.TheVariants.{OutOfMemory, NotACommand, NothingToEnd, RowDoesNotFit, ReadFailed, WriteFailed}
use Rattle.tbr_c_lines.specs.Status.{fault_of_command}
use Rattle.tbr_c.specs.State.{kept}

-- a refusal of a command that isn't kept is another one
pub not_kept : (e : RunError) → kept (fault_of_command e) ≡ None → (e ≢ OutOfMemory) × (e ≢ TooNarrow)
not_kept TooNarrow none = absurd (let no : ⊥ = cc none in no)
not_kept OutOfMemory none = absurd (let no : ⊥ = cc none in no)
not_kept ReadFailed none = absurd (let no : ⊥ = cc none in no)
not_kept WriteFailed none = absurd (let no : ⊥ = cc none in no)
not_kept (NotACommand n) none = (λ is. absurd (cc is), λ is. absurd (cc is))
not_kept (NothingToEnd n) none = (λ is. absurd (cc is), λ is. absurd (cc is))
not_kept (RowDoesNotFit n) none = (λ is. absurd (cc is), λ is. absurd (cc is))
