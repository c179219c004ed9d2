-- In a run without `Pre` each visible character is under its own annotation.
use Rattle.tbr_model.proofs.Common.{◌≡◌, ◌≢◌, ℕ, ◌⊎◌, inl, inr, Option, List, refl, Each, WhiteSpace, Pre, character, Event, run_of, at_start, lines_of}
use Rattle.tbr_model.specs.Shown.{IsNotPre, StandsUnderOwn, ShowsOwn}
use Rattle.tbr_model.proofs.rule.Content.{found_from}
use Rattle.tbr_model.proofs.rule.HardLines.{start_fresh}
use Rattle.tbr_model.proofs.rule.VisibleCharacters.{none_visible, looks_at_characters, visible_zip}

-- In a run without `Pre` the visible characters are under their own annotations.
pub own_shown : {A : Type 0} (columns : ℕ → Option ℕ) (width : ℕ) (Same : A → A → Type 0) → ((x : A) → Same x x) →
    (es : List (Event A)) → Each IsNotPre (run_of es) → ShowsOwn columns Same (run_of es) (lines_of columns width es)
own_shown {A} columns width Same same es h =
    let looks = looks_at_characters {A = A} columns IsNotPre (λ m. m ≢ Pre) (λ c a b m other. other) in
    let g = (found_from looks (none_visible columns) width at_start es start_fresh (λ e. cc) h).1 in
    rw (g.are) (visible_zip columns (λ m. m ≢ Pre) (StandsUnderOwn Same) under g.items (run_of es) g.stand)
  where
    under : (c : ℕ) (x a b : A) (m : WhiteSpace) → (x ≡ a) ⊎ ((x ≡ b) × (Pre ≢ Pre)) → StandsUnderOwn Same (c, x) (character c a b m)
    under c x a b m (inl e) = (refl, rw (← e) (same x))
    under c x a b m (inr e) = absurd (e.1 refl)
