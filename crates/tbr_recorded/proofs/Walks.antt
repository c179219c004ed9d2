-- What is made by one thing after another.
use Rattle.std.proofs.Common.{◌≡◌, ℕ, ◌+◌, ◌<◌, Result, Ok, Err, List, [], ◌∷◌, ◌++◌, length, get_or, take, drop, refl, ap, sym, ◌∙◌}
use Rattle.std.proofs.lemmas.List.{take_more, take-append-drop}
use Rattle.tbr_recorded.specs.Drawn.{then_made, after_each}

module _ {X S E : Type 0} (make : X → S → Result S E) where
  -- those of two lists
  pub each_append : (xs ys : List X) (s : S) → after_each make (xs ++ ys) s ≡ then_made (after_each make xs s) (after_each make ys)
  each_append [] ys s = refl
  each_append (x ∷ xs) ys s = go (make x s) (λ t. each_append xs ys t)
    where
      go : (r : Result S E) → ((t : S) → after_each make (xs ++ ys) t ≡ then_made (after_each make xs t) (after_each make ys)) →
          then_made r (after_each make (xs ++ ys)) ≡ then_made (then_made r (after_each make xs)) (after_each make ys)
      go (Ok t) after = after t
      go (Err e) after = refl

  each_single : (x : X) (s : S) → after_each make (x ∷ []) s ≡ make x s
  each_single x s = go (make x s)
    where
      go : (r : Result S E) → then_made r (after_each make []) ≡ r
      go (Ok t) = refl
      go (Err e) = refl

  -- one more of them
  pub each_step : (xs : List X) (i : ℕ) (d : X) (s t : S) → i < length xs → after_each make (take i xs) s ≡ Ok t →
      after_each make (take (i + 1) xs) s ≡ make (get_or xs i d) t
  each_step xs i d s t h is =
      ap (λ (ys : List X). after_each make ys s) (take_more xs i d h) ∙ each_append (take i xs) (get_or xs i d ∷ []) s
      ∙ ap (λ (r : Result S E). then_made r (after_each make (get_or xs i d ∷ []))) is ∙ each_single (get_or xs i d) t

  -- the first refusal is that of all
  pub each_refused : (xs : List X) (i : ℕ) (d : X) (s t : S) (e : E) → i < length xs → after_each make (take i xs) s ≡ Ok t →
      make (get_or xs i d) t ≡ Err e → after_each make xs s ≡ Err e
  each_refused xs i d s t e h is refused =
      ap (λ (ys : List X). after_each make ys s) (sym (take-append-drop (i + 1) xs))
      ∙ each_append (take (i + 1) xs) (drop (i + 1) xs) s
      ∙ ap (λ (r : Result S E). then_made r (after_each make (drop (i + 1) xs))) (each_step xs i d s t h is ∙ refused)
