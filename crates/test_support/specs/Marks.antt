-- Marks, and whether two are the same.
use Rattle.std.specs.Prelude.{◌≡◌, ◌↔◌, IsTrue, Bool, true, false, refl}
use Rattle.std.proofs.lemmas.Bool.{false≢true}
use Rattle.test_support.specs.declared.marked.Mark.{Mark}
use Rattle.test_support.specs.declared.marked.Mark.TheVariants.{Nothing, Marked}

abbrev pub same_mark : Mark → Mark → Bool
same_mark Nothing Nothing = true
same_mark Nothing Marked = false
same_mark Marked Nothing = false
same_mark Marked Marked = true

pub marks_apart : (m n : Mark) → IsTrue (same_mark m n) ↔ (m ≡ n)
marks_apart Nothing Nothing = (λ _. refl, λ _. refl)
marks_apart Nothing Marked = (λ h. absurd (false≢true h), λ e. absurd (let no : ⊥ = cc in no))
marks_apart Marked Nothing = (λ h. absurd (false≢true h), λ e. absurd (let no : ⊥ = cc in no))
marks_apart Marked Marked = (λ _. refl, λ _. refl)
