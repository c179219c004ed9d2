-- Stretches of non-blanks, and where the lines of a wrapped text cut them.
use Rattle.tbr_model.proofs.Common.{◌≡◌, ◌≢◌, ℕ, zero, suc, ◌<◌, inl, inr, Bool, true, false, not, ◌==◌, if◌then◌else◌, List, [], ◌∷◌, ◌++◌, flat_map, replicate, length, refl, ap, sym, ◌∙◌, subst}
use Rattle.tbr_model.proofs.Common.{arith, append-nil, length-append, ne_eqb, Each, cond_both, not-true, eqb_tells, IsSpaces, BeginsWithNonBlank, EndsWithNonBlank, onto_first, first_stretch}
use Rattle.tbr_model.proofs.Common.{stretches, IsCutOf, IsWrapped}
use Rattle.tbr_model.specs.Hard.{begins_stretch}
use Rattle.tbr_model.proofs.prewrap.OneWay.{filled}

-- ---- stretches of a text

abbrev pushed : ℕ → Bool → List (List ℕ) → List (List ℕ)
pushed x b u = if b then onto_first x u else (x ∷ []) ∷ u

pushed-append : (x : ℕ) (b : Bool) (u v : List (List ℕ)) → (b ≡ true → 0 < length u) → pushed x b (u ++ v) ≡ pushed x b u ++ v
pushed-append x false u v h = refl
pushed-append x true [] v h = absurd (omega (arith, h refl))
pushed-append x true (s ∷ u) v h = refl

begins_gap : (xs ys : List ℕ) → begins_stretch (xs ++ 32 ∷ ys) ≡ begins_stretch xs
begins_gap [] ys = refl
begins_gap (x ∷ xs) ys = refl

begins_some : (xs : List ℕ) → begins_stretch xs ≡ true → 0 < length (stretches xs)
begins_some [] h = cc
begins_some (x ∷ xs) h =
    rw (not-true (x == 32) h) (cond_both (begins_stretch xs) _ _ (λ (u : List (List ℕ)). 0 < length u) (λ _. some (stretches xs)) (λ _. omega arith))
  where
    some : (u : List (List ℕ)) → 0 < length (onto_first x u)
    some [] = omega arith
    some (s ∷ u) = omega arith

-- a space parts the stretches
stretches_gap : (xs ys : List ℕ) → stretches (xs ++ 32 ∷ ys) ≡ stretches xs ++ stretches ys
stretches_gap [] ys = refl
stretches_gap (x ∷ xs) ys = grind (arith, eqb_tells, begins_gap, pushed-append, begins_some, stretches_gap xs ys)

stretches_after : (n : ℕ) (ys : List ℕ) → stretches (replicate n 32 ++ ys) ≡ stretches ys
stretches_after zero ys = refl
stretches_after (suc n) ys = stretches_after n ys

pub stretches_spaces : (cs : List ℕ) → IsSpaces cs → stretches cs ≡ []
stretches_spaces [] h = refl
stretches_spaces (c ∷ cs) h = rw (h.0) (stretches_spaces cs h.1)

-- a text of non-blanks
abbrev IsSolid : List ℕ → Type 0
IsSolid cs = Each (λ c. c ≢ 32) cs

stretches_solid : (cs : List ℕ) → EndsWithNonBlank cs → IsSolid cs → stretches cs ≡ cs ∷ []
stretches_solid [] ends h = absurd ends
stretches_solid (c ∷ []) ends h = let e : (c == 32) ≡ false = ne_eqb c 32 h.0 in rw e refl
stretches_solid (c ∷ d ∷ cs) ends h = grind (arith, ne_eqb, stretches_solid (d ∷ cs) ends h.1)

-- a text that is its first stretch
solid : (cs : List ℕ) → first_stretch cs ≡ cs → IsSolid cs
solid [] h = tt
solid (c ∷ cs) h = elim (eqb_tells c 32) [
  | inl w ↦ absurd (let none : length (first_stretch (c ∷ cs)) ≡ 0 = rw (w.0) refl in omega (arith, ap length h, none))
  | inr w ↦ (w.1, solid cs (let rest : c ∷ first_stretch cs ≡ c ∷ cs = rw (w.0) at h in cc))
]

-- a text that begins with a non-blank has a first stretch
some_stretch : (c : ℕ) (cs : List ℕ) → c ≢ 32 → (s : List ℕ) × (ss : List (List ℕ)) × (stretches (c ∷ cs) ≡ s ∷ ss) × (0 < length s)
some_stretch c cs other = let e : (c == 32) ≡ false = ne_eqb c 32 other in rw e (go (begins_stretch cs) (stretches cs))
  where
    go : (b : Bool) (u : List (List ℕ)) → (s : List ℕ) × (ss : List (List ℕ)) × (pushed c b u ≡ s ∷ ss) × (0 < length s)
    go false u = (c ∷ [], u, refl, omega arith)
    go true [] = (c ∷ [], [], refl, omega arith)
    go true (s ∷ u) = (c ∷ s, u, refl, omega arith)

begins_both : (l r : List ℕ) → IsSolid l → BeginsWithNonBlank r → begins_stretch (l ++ r) ≡ true
begins_both [] [] h begins = absurd begins
begins_both [] (d ∷ r) h begins = ap not (ne_eqb d 32 begins)
begins_both (c ∷ l) r h begins = ap not (ne_eqb c 32 h.0)

-- non-blanks in front of a stretch belong to it
stretch_longer : (l r s : List ℕ) (ss : List (List ℕ)) → IsSolid l → BeginsWithNonBlank r → stretches r ≡ s ∷ ss → stretches (l ++ r) ≡ (l ++ s) ∷ ss
stretch_longer [] r s ss h begins is = is
stretch_longer (c ∷ l) r s ss h begins is = grind (arith, ne_eqb, begins_both, stretch_longer l r s ss h.1 begins is)

-- ---- wrapped texts

module _ (width : ℕ) where
  -- stretches that aren't cut, in front of others
  whole_first : (ss ts ps : List (List ℕ)) → IsCutOf width ts ps → IsCutOf width (ss ++ ts) (ss ++ ps)
  whole_first [] ts ps h = h
  whole_first (s ∷ ss) ts ps h = (s ∷ [], ss ++ ps, refl, append-nil s, λ _. refl, whole_first ss ts ps h)

  apart : (l r : List ℕ) (ps : List (List ℕ)) → stretches (l ++ r) ≡ stretches l ++ stretches r → IsCutOf width (stretches r) ps → IsCutOf width (stretches (l ++ r)) (stretches l ++ ps)
  apart l r ps is h = subst (λ (ss : List (List ℕ)). IsCutOf width ss (stretches l ++ ps)) (sym is) (whole_first (stretches l) (stretches r) ps h)

  -- A line, and the lines after it. If a stretch goes on from one to the other, it fills the line, and is cut.
  cut_line : (l r : List ℕ) (ls : List (List ℕ)) → EndsWithNonBlank l → IsWrapped width l r ls →
      IsCutOf width (stretches r) (flat_map stretches ls) →
      IsCutOf width (stretches (l ++ r)) (stretches l ++ flat_map stretches ls)
  cut_line l [] ls ends h k = apart l [] (flat_map stretches ls) (ap stretches (append-nil l) ∙ sym (append-nil (stretches l))) k
  cut_line l (c ∷ r) ls ends h k = elim (eqb_tells c 32) [
    | inl w ↦ apart l (c ∷ r) (flat_map stretches ls) (rw (w.1) (stretches_gap l r)) k
    | inr w ↦
        let (full, alone) = filled width l (c ∷ r) ls ends w.1 h in
        let (s, ss, first, some) = some_stretch c r w.1 in
        let (front, back, are, all, whole, others) = subst (λ (ts : List (List ℕ)). IsCutOf width ts (flat_map stretches ls)) first k in
        subst (λ (ts : List (List ℕ)). IsCutOf width ts (stretches l ++ flat_map stretches ls)) (sym (stretch_longer l (c ∷ r) s ss (solid l alone) w.1 first)) (
          l ∷ front,
          back,
          ap (λ (ts : List (List ℕ)). ts ++ flat_map stretches ls) (stretches_solid l ends (solid l alone)) ∙ ap (λ (ps : List (List ℕ)). l ∷ ps) are,
          ap (λ (cs : List ℕ). l ++ cs) all,
          λ fits. absurd (omega (arith, fits, full, some, length-append l s)),
          others,
        )
  ]

  -- In a wrapped text only a stretch that is wider than a line is cut.
  pub cut_if_wrapped : (before text : List ℕ) (ls : List (List ℕ)) → IsWrapped width before text ls → IsCutOf width (stretches text) (flat_map stretches ls)
  cut_if_wrapped before text [] h = subst (λ (ss : List (List ℕ)). IsCutOf width ss []) (sym (stretches_spaces text h)) refl
  cut_if_wrapped before text (l ∷ ls) h = grind (arith, ℕ, stretches_after, cut_line, cut_if_wrapped l h.1 ls h.6)
