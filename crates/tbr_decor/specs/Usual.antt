-- What a decorator answers that has no answer of its own.
use Rattle.std.specs.Prelude.{◌≡◌, ◌↔◌, IsTrue, true, refl, ℕ, ◌+◌, List, [], ◌∷◌, ◌++◌, codes}
use Rattle.std.specs.Fmt.{decimal}
use Rattle.tbr_tagged.specs.Elements.{Element, piece}

-- the text before a superscript, and the text after it
abbrev pub superscript_start : List ℕ
superscript_start = codes "^{"

abbrev pub superscript_end : List ℕ
superscript_end = codes "}"

-- the line of the target with the number `k`
abbrev pub footnote : {A : Type 0} → A → ℕ → List ℕ → List (Element A)
footnote a k target = piece (codes "[" ++ decimal k ++ codes "]: " ++ target) a ∷ []

-- a line for each target, the numbers counting from `k`
abbrev pub footnotes_from : {A : Type 0} → A → ℕ → List (List ℕ) → List (List (Element A))
footnotes_from a k [] = []
footnotes_from a k (target ∷ targets) = footnote a k target ∷ footnotes_from a (k + 1) targets

-- a line for each target, the numbers counting from 1
abbrev pub footnotes : {A : Type 0} → A → List (List ℕ) → List (List (Element A))
footnotes a targets = footnotes_from a 1 targets

-- such a line under some annotation of a kind
pub record IsFootnote {A : Type 0} (IsKind : A → Type 0) (k : ℕ) (target : List ℕ) (line : List (Element A)) :
    Type 0 where
  pub annotation : A
  pub kind : IsKind annotation
  pub shown : line ≡ footnote annotation k target

-- There is such a line for each target, the numbers counting from `k`.
abbrev pub AreFootnotesFrom : {A : Type 0} → (A → Type 0) → ℕ → List (List ℕ) → List (List (Element A)) → Type 0
AreFootnotesFrom IsKind k [] [] = Unit {0}
AreFootnotesFrom IsKind k (target ∷ targets) (line ∷ lines) =
    IsFootnote IsKind k target line × AreFootnotesFrom IsKind (k + 1) targets lines
AreFootnotesFrom IsKind k [] (line ∷ lines) = ⊥
AreFootnotesFrom IsKind k (target ∷ targets) [] = ⊥

-- a line for each target, the numbers counting from 1
abbrev pub AreFootnotes : {A : Type 0} → (A → Type 0) → List (List ℕ) → List (List (Element A)) → Type 0
AreFootnotes IsKind targets lines = AreFootnotesFrom IsKind 1 targets lines

-- where nothing is annotated all mean the same
pub all_same : (a b : Unit {0}) → IsTrue true ↔ (a ≡ b)
all_same a b = (λ _. refl, λ _. refl)
