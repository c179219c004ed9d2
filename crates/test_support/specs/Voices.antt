-- Voices, and whether two are the same.
use Rattle.std.specs.Prelude.{◌≡◌, ◌↔◌, IsTrue, Bool, true, false, refl}
use Rattle.std.proofs.lemmas.Bool.{false≢true}
use Rattle.test_support.specs.declared.texts.Voice.{Voice}
use Rattle.test_support.specs.declared.texts.Voice.TheVariants.{First, Second}

abbrev pub same_voice : Voice → Voice → Bool
same_voice First First = true
same_voice First Second = false
same_voice Second First = false
same_voice Second Second = true

pub voices_apart : (v w : Voice) → IsTrue (same_voice v w) ↔ (v ≡ w)
voices_apart First First = (λ _. refl, λ _. refl)
voices_apart First Second = (λ h. absurd (false≢true h), λ e. absurd (let no : ⊥ = cc in no))
voices_apart Second First = (λ h. absurd (false≢true h), λ e. absurd (let no : ⊥ = cc in no))
voices_apart Second Second = (λ _. refl, λ _. refl)
