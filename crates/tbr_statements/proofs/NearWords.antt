-- The word of some texts that is nearest to another one, after so many of them.
use Rattle.std.proofs.Common.{◌≡◌, ℕ, ◌+◌, ◌<◌, ◌≤◌, List, [], get_or, length, MatchOption, Option, None, Some, arith, sym, ◌∙◌, subst, below_more}
use Rattle.std.specs.Prelude.{Contains, IfSome, IfNone}
use Rattle.std.specs.Borrow.{Bor}
use Rattle.std.proofs.lemmas.List.{get_or_default}
use Rattle.tbr_statements.specs.Words.{edits, too_far, IsNearest, AreFar}

-- what is there where there is no text
abbrev pub no_text : Bor (List ℕ)
no_text = record { ref_ptr = (0, 0); now = [] }

module _ (word : List ℕ) (among : List (Bor (List ℕ))) where
  -- the best so far, and how far it is
  abbrev pub IsBest : Option (Bor (List ℕ)) → ℕ → Type 0
  IsBest best least = MatchOption best (least ≡ too_far word)
      (λ text. (least ≡ edits word text) × (least < too_far word) × Contains among text)

  abbrev pub NoneIsNearer : ℕ → ℕ → Type 0
  NoneIsNearer i least = (k : ℕ) (d : Bor (List ℕ)) → k < i → least ≤ edits word (get_or among k d)

  pub within : (best : Option (Bor (List ℕ))) (least : ℕ) → IsBest best least → least ≤ too_far word
  within None least h = omega arith
  within (Some text) least h = omega arith

  -- one text more, which is nearer or isn't
  module _ (i : ℕ) (e : Bor (List ℕ)) (below : i < length among) where
    pub none_more : (least now : ℕ) → NoneIsNearer i least → now ≤ least → now ≤ edits word (get_or among i e) → NoneIsNearer (i + 1) now
    none_more least now before under here =
        let P : ℕ → Type 0 = λ k. (d : Bor (List ℕ)) → now ≤ edits word (get_or among k d) in
        λ k d lt. below_more P i (λ j lower f. let old = before j f lower in omega arith)
        (λ f. subst (λ (text : Bor (List ℕ)). now ≤ edits word text) (get_or_default among i e f below) here) k lt d

    pub found : (best : Option (Bor (List ℕ))) (least now edited : ℕ) → best ≡ Some (get_or among i e) → now ≡ edited → edited ≡ edits word (get_or among i e) →
        edited < least → least ≤ too_far word → IsBest best now
    found best least now edited is same far lower within =
        let near : now < too_far word = omega arith in
        subst (λ (b : Option (Bor (List ℕ))). IsBest b now) (sym is)
        (same ∙ far, near, (i, below, get_or_default among i (get_or among i e) e below))

  -- and all of them
  pub is_nearest : (i least : ℕ) (best : Option (Bor (List ℕ))) → IsBest best least → NoneIsNearer i least → length among ≤ i → IfSome best (λ text. IsNearest word among text)
  is_nearest i least None h none all = tt
  is_nearest i least (Some text) h none all = record {
    one = h.2;
    near = subst (λ (n : ℕ). n < too_far word) h.0 h.1;
    least = λ k d lt. subst (λ (n : ℕ). n ≤ edits word (get_or among k d)) h.0 (none k d (omega arith));
  }

  pub are_far : (i least : ℕ) (best : Option (Bor (List ℕ))) → IsBest best least → NoneIsNearer i least → length among ≤ i → IfNone best (AreFar word among)
  are_far i least None h none all = λ k d lt. subst (λ (n : ℕ). n ≤ edits word (get_or among k d)) h (none k d (omega arith))
  are_far i least (Some text) h none all = tt
