-- Where a text has its first bar.
use Rattle.std.proofs.Common.{◌≡◌, ◌⊎◌, inl, inr, ℕ, ◌<◌, ◌≤◌, ◌+◌, Option, None, Some, List, ◌++◌, length, take, drop, MatchOption, refl, sym, ap, ◌∙◌, arith}
use Rattle.std.specs.Borrow.{Bor}
use Rattle.std.specs.Option.{option_map}
use Rattle.std.specs.Str.Pattern.{FindsText}
use Rattle.std.proofs.lemmas.Bool.{cases_lt}
use Rattle.std.proofs.lemmas.List.{drop_at}
use Rattle.std.proofs.lemmas.Str.Pattern.{split_text_parts}
use Rattle.tbr_script.specs.Script.{bar}
use Rattle.tbr_script.specs.Read.{split_at_bar}
use Rattle.tbr_script.proofs.Reading.{bar_split, split_written}

-- the clause of `split_once` at a text
abbrev pub IsSplitAt : List ℕ → List ℕ → Option (Bor (List ℕ) × Bor (List ℕ)) → Type 0
IsSplitAt p bs r = MatchOption r (FindsText p bs None)
    (λ x. (i : ℕ) × (j : ℕ) × FindsText p bs (Some (i, j)) × (x.0.now ≡ take i bs) × (x.1.now ≡ drop j bs) × (i ≤ j) ×
    (length x.0.now ≡ i) × (length x.1.now + j ≡ length bs))

-- nothing earlier is a bar
first_bar : (bs : List ℕ) (x : Bor (List ℕ) × Bor (List ℕ)) → IsSplitAt bar bs (Some x) → (xs ys : List ℕ) → bs ≡ xs ++ (bar ++ ys) → length x.0.now ≤ length xs
first_bar bs x h xs ys e = go (cases_lt (length xs) h.0)
  where
    go : (length xs < h.0) ⊎ (h.0 ≤ length xs) → length x.0.now ≤ length xs
    go (inl l) = absurd (h.2.0 (length xs) l ys (ap (drop (length xs)) e ∙ drop_at xs (bar ++ ys) (length xs) refl))
    go (inr l) = omega (arith, l, h.6)

no_bar : (bs : List ℕ) → ((xs ys : List ℕ) → bs ≡ xs ++ (bar ++ ys) → ⊥) → (o : Option (List ℕ × List ℕ)) → split_at_bar bs ≡ o → None ≡ o
no_bar bs none None e = refl
no_bar bs none (Some parts) e = absurd (none parts.0 parts.1 (bar_split bs parts.0 parts.1 e).splits)

pub split_is : (bs : List ℕ) (r : Option (Bor (List ℕ) × Bor (List ℕ))) → IsSplitAt bar bs r → option_map (λ p. (p.0.now, p.1.now)) r ≡ split_at_bar bs
split_is bs None h = no_bar bs (split_text_parts bar bs None h) (split_at_bar bs) refl
split_is bs (Some x) h =
    let parts : bs ≡ x.0.now ++ (bar ++ x.1.now) = split_text_parts bar bs (Some x) h in
    sym (ap split_at_bar parts ∙ split_written x.0.now x.1.now (λ xs ys e. first_bar bs x h xs ys (parts ∙ e)))
