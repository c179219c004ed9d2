-- A text is wrapped in one way.
use Rattle.tbr_model.proofs.Common.{◌≡◌, ℕ, zero, suc, ◌+◌, ◌<◌, ◌≤◌, inl, inr, ◌==◌, List, [], ◌∷◌, ◌++◌, length, replicate, refl, ap, sym, ◌∙◌, subst, arith, append-nil, length-append, eqb_tells}
use Rattle.tbr_model.proofs.Common.{length-replicate, cond_both, IsSpaces, BeginsWithNonBlank, EndsWithNonBlank, first_stretch, BeginsAfter, IsWrapped}
use Rattle.tbr_model.proofs.lists.Each.{each_front, each_back}
use Rattle.tbr_model.proofs.lists.Joined.{cut_twice}

-- ---- texts

no_spaces_alone : (cs : List ℕ) → EndsWithNonBlank cs → ¬ (IsSpaces cs)
no_spaces_alone [] e h = absurd e
no_spaces_alone (c ∷ []) e h = e.0 h.0
no_spaces_alone (c ∷ d ∷ cs) e h = no_spaces_alone (d ∷ cs) e h.1

ends_some : (cs : List ℕ) → EndsWithNonBlank cs → 0 < length cs
ends_some [] e = absurd e
ends_some (c ∷ cs) e = omega arith

ends_back : (a : List ℕ) (y : ℕ) (z : List ℕ) → EndsWithNonBlank (a ++ (y ∷ z)) → EndsWithNonBlank (y ∷ z)
ends_back [] y z e = e
ends_back (c ∷ []) y z e = e
ends_back (c ∷ d ∷ a) y z e = ends_back (d ∷ a) y z e

pub begins_not_spaces : (cs : List ℕ) → BeginsWithNonBlank cs → ¬ (IsSpaces cs)
begins_not_spaces [] e h = absurd e
begins_not_spaces (c ∷ cs) e h = e h.0

-- what begins with a non-blank has no space in front
no_gap : (n : ℕ) (cs ds : List ℕ) → cs ≡ replicate n 32 ++ ds → BeginsWithNonBlank cs → n ≡ 0
no_gap zero cs ds e h = refl
no_gap (suc n) cs ds e h = absurd (let k : BeginsWithNonBlank (32 ∷ (replicate n 32 ++ ds)) = subst BeginsWithNonBlank e h in k refl)

-- the first stretch ends at a space
first_ends : (a cs : List ℕ) → length (first_stretch (a ++ (32 ∷ cs))) ≤ length a
first_ends [] cs = omega arith
first_ends (c ∷ a) cs = cond_both (c == 32) _ _ (λ (ds : List ℕ). length ds ≤ length (c ∷ a)) (λ _. omega arith) (λ _. omega (arith, first_ends a cs))

-- after a part of a stretch the text goes on with a non-blank
stretch_goes_on : (a b c e : List ℕ) → a ++ b ≡ c ++ e → length a < length (first_stretch c) → BeginsWithNonBlank b
stretch_goes_on a b [] e h k = absurd (omega arith)
stretch_goes_on [] b (y ∷ c) e h k = elim (eqb_tells y 32) [
  | inl s ↦ absurd (let n : 0 < length (first_stretch (32 ∷ c)) = subst (λ z. 0 < length (first_stretch (z ∷ c))) s.1 k in omega (arith, n))
  | inr s ↦ subst BeginsWithNonBlank (sym h) s.1
]
stretch_goes_on (x ∷ a) b (y ∷ c) e h k = elim (eqb_tells y 32) [
  | inl s ↦ absurd (let n : suc (length a) < length (first_stretch (32 ∷ c)) = subst (λ z. suc (length a) < length (first_stretch (z ∷ c))) s.1 k in omega (arith, n))
  | inr s ↦ stretch_goes_on a b c e (let more : a ++ b ≡ c ++ e = cc in more) (let n : suc (length a) < length (y ∷ first_stretch c) = rw (s.0) at k in omega (arith, n))
]

-- a part that ends with a non-blank goes beyond spaces
beyond_spaces : (n : ℕ) (a b cs : List ℕ) → a ++ b ≡ replicate n 32 ++ cs → EndsWithNonBlank a →
    (more : List ℕ) × (a ≡ replicate n 32 ++ more) × (more ++ b ≡ cs)
beyond_spaces zero a b cs e h = (a, refl, e)
beyond_spaces (suc n) [] b cs e h = absurd h
beyond_spaces (suc n) (x ∷ []) b cs e h = absurd (let same : x ≡ 32 = cc in h.0 same)
beyond_spaces (suc n) (x ∷ y ∷ a) b cs e h =
    let same : x ≡ 32 = cc in
    let rest : (y ∷ a) ++ b ≡ replicate n 32 ++ cs = cc in
    let w = beyond_spaces n (y ∷ a) b cs rest h in
    (w.0, (let p : y ∷ a ≡ replicate n 32 ++ w.0 = w.1 in cc), w.2)

-- two texts that begin with a non-blank come after as many spaces
same_gap : (n k : ℕ) (a b c e : List ℕ) → replicate n 32 ++ (a ++ b) ≡ replicate k 32 ++ (c ++ e) → BeginsWithNonBlank a → BeginsWithNonBlank c → a ++ b ≡ c ++ e
same_gap n k [] b c e h p q = absurd p
same_gap n k (x ∷ a) b [] e h p q = absurd q
same_gap zero zero (x ∷ a) b (y ∷ c) e h p q = h
same_gap zero (suc k) (x ∷ a) b (y ∷ c) e h p q = absurd (let s : x ≡ 32 = cc in p s)
same_gap (suc n) zero (x ∷ a) b (y ∷ c) e h p q = absurd (let s : y ≡ 32 = cc in q s)
same_gap (suc n) (suc k) (x ∷ a) b (y ∷ c) e h p q =
    let rest : replicate n 32 ++ ((x ∷ a) ++ b) ≡ replicate k 32 ++ ((y ∷ c) ++ e) = cc in same_gap n k (x ∷ a) b (y ∷ c) e rest p q

-- ---- lines

-- a line after which a stretch goes on was filled by that stretch alone
pub filled : (width : ℕ) (l r : List ℕ) (ls : List (List ℕ)) → EndsWithNonBlank l → BeginsWithNonBlank r → IsWrapped width l r ls → (length l ≡ width) × (first_stretch l ≡ l)
filled width l r [] ends begins h = absurd (begins_not_spaces r begins h)
filled width l r (m ∷ ls) ends begins h = elim h.5 [ inl e ↦ absurd (omega (arith, ends_some l ends, ap length e.0)) | inr e ↦ e.2 (no_gap h.0 r (m ++ h.1) h.2 begins) ]

-- no line ends before another that begins at its place
module _ (width : ℕ) where
  no_earlier : (l m r q : List ℕ) (ls ms : List (List ℕ)) (y : ℕ) (z : List ℕ) → EndsWithNonBlank l → EndsWithNonBlank m → length m ≤ width →
      m ≡ l ++ (y ∷ z) → r ≡ (y ∷ z) ++ q → IsWrapped width l r ls → ¬ (IsWrapped width m q ms)
  no_earlier l m r q [] ms y z ends others fits e f h k =
      no_spaces_alone (y ∷ z) (ends_back l y z (subst EndsWithNonBlank e others)) (each_front (λ c. c ≡ 32) (y ∷ z) q (subst IsSpaces f h))
  no_earlier l m r q (n ∷ ls) ms y z ends others fits e f h k = go h.0 h.2 h.5
    where
      long : length m ≡ length l + length (y ∷ z)
      long = ap length e ∙ length-append l (y ∷ z)

      go : (gap : ℕ) → r ≡ replicate gap 32 ++ (n ++ h.1) → BeginsAfter width l gap n → ⊥
      go gap is (inl b) = absurd (omega (arith, ends_some l ends, ap length b.0))
      go zero is (inr b) = absurd (omega (arith, (b.2 refl).0, long, fits))
      go (suc gap) is (inr b) =
          let w = beyond_spaces (suc gap) (y ∷ z) q (n ++ h.1) (sym f ∙ is) (ends_back l y z (subst EndsWithNonBlank e others)) in
          let size : length (y ∷ z) ≡ suc gap + length w.0 = ap length w.1 ∙ length-append (replicate (suc gap) 32) w.0 ∙ ap (λ x. x + length w.0) (length-replicate (suc gap) 32) in
          let next : BeginsWithNonBlank q = stretch_goes_on w.0 q n h.1 w.2 (omega (arith, size, b.1, long, fits)) in
          let whole : first_stretch m ≡ m = (filled width m q ms others next k).1 in
          let is_m : m ≡ l ++ (32 ∷ (replicate gap 32 ++ w.0)) = e ∙ ap (λ x. l ++ x) w.1 in
          let short : length (first_stretch m) ≤ length l = subst (λ x. length (first_stretch x) ≤ length l) (sym is_m) (first_ends l (replicate gap 32 ++ w.0)) in
          omega (arith, ap length whole, short, long)

  -- no line keeps spaces in front that another drops
  not_kept : (before l m r q : List ℕ) (ls : List (List ℕ)) (g n : ℕ) → EndsWithNonBlank l → length l ≤ width → (before ≡ []) × (g ≡ 0) → width < length before + (n + length (first_stretch m)) →
      (n ≡ 0 → (length before ≡ width) × (first_stretch before ≡ before)) → replicate g 32 ++ (l ++ r) ≡ replicate n 32 ++ (m ++ q) → ¬ (IsWrapped width l r ls)
  not_kept before l m r q ls g zero ends fits first wide full e h = omega (arith, ap length first.0, (full refl).0, ends_some l ends, fits)
  not_kept before l m r q ls g (suc n) ends fits first wide full e h =
      let w = beyond_spaces (suc n) l r (m ++ q) (rw (first.1) at e) ends in
      let size : length l ≡ suc n + length w.0 = ap length w.1 ∙ length-append (replicate (suc n) 32) w.0 ∙ ap (λ x. x + length w.0) (length-replicate (suc n) 32) in
      let next : BeginsWithNonBlank r = stretch_goes_on w.0 r m q w.2 (omega (arith, size, wide, fits, ap length first.0)) in
      let whole : first_stretch l ≡ l = (filled width l r ls ends next h).1 in
      let none : length (first_stretch l) ≡ 0 = subst (λ x. length (first_stretch x) ≡ 0) (sym w.1) refl in
      omega (arith, ap length whole, none, ends_some l ends)

  -- two lines that begin at one place are the same
  same_place : (l m r q : List ℕ) (ls ms : List (List ℕ)) → l ++ r ≡ m ++ q → EndsWithNonBlank l → EndsWithNonBlank m → length l ≤ width → length m ≤ width →
      IsWrapped width l r ls → IsWrapped width m q ms → (l ≡ m) × (r ≡ q)
  same_place l m r q ls ms e ends others fits other h k =
      elim (cut_twice l r m q e) [
        | inl w ↦ longer w.0 w.1 w.2
        | inr w ↦ absurd (no_earlier m l q r ms ls w.0 w.1 others ends fits w.2 w.3 k h)
      ]
    where
      longer : (z : List ℕ) → m ≡ l ++ z → r ≡ z ++ q → (l ≡ m) × (r ≡ q)
      longer [] p f = (sym (p ∙ append-nil l), f)
      longer (y ∷ z) p f = absurd (no_earlier l m r q ls ms y z ends others other p f h k)

  same_line : (before l m r q : List ℕ) (ls ms : List (List ℕ)) (g n : ℕ) → replicate g 32 ++ (l ++ r) ≡ replicate n 32 ++ (m ++ q) →
      EndsWithNonBlank l → EndsWithNonBlank m → length l ≤ width → length m ≤ width → BeginsAfter width before g l → BeginsAfter width before n m →
      IsWrapped width l r ls → IsWrapped width m q ms → (l ≡ m) × (r ≡ q)
  same_line before l m r q ls ms g n e ends others fits other (inl a) (inl b) h k =
      same_place l m r q ls ms (rw (a.1, b.1) at e) ends others fits other h k
  same_line before l m r q ls ms g n e ends others fits other (inr a) (inr b) h k =
      same_place l m r q ls ms (same_gap g n l r m q e a.0 b.0) ends others fits other h k
  same_line before l m r q ls ms g n e ends others fits other (inl a) (inr b) h k =
      absurd (not_kept before l m r q ls g n ends fits a b.1 b.2 e h)
  same_line before l m r q ls ms g n e ends others fits other (inr a) (inl b) h k =
      absurd (not_kept before m l q r ms n g others other b a.1 a.2 (sym e) k)

  nothing_left : (before text : List ℕ) (m : List ℕ) (ms : List (List ℕ)) → IsSpaces text → ¬ (IsWrapped width before text (m ∷ ms))
  nothing_left before text m ms h k =
      no_spaces_alone m k.3 (each_front (λ c. c ≡ 32) m k.1 (each_back (λ c. c ≡ 32) (replicate k.0 32) (m ++ k.1) (subst IsSpaces k.2 h)))

  pub wrapped_in_one_way : (before text : List ℕ) (ls ms : List (List ℕ)) → IsWrapped width before text ls → IsWrapped width before text ms → ms ≡ ls
  wrapped_in_one_way before text [] [] h k = refl
  wrapped_in_one_way before text [] (m ∷ ms) h k = absurd (nothing_left before text m ms h k)
  wrapped_in_one_way before text (l ∷ ls) [] h k = absurd (nothing_left before text l ls k h)
  wrapped_in_one_way before text (l ∷ ls) (m ∷ ms) h k =
      let same = same_line before l m h.1 k.1 ls ms h.0 k.0 (sym h.2 ∙ k.2) h.3 k.3 h.4 k.4 h.5 k.5 h.6 k.6 in
      let one : l ≡ m = same.0 in
      let more : IsWrapped width l h.1 ms =
      subst (λ (r : List ℕ). IsWrapped width l r ms) (sym same.1) (subst (λ (x : List ℕ). IsWrapped width x k.1 ms) (sym one) k.6) in
      let rest : ms ≡ ls = wrapped_in_one_way l h.1 ls ms h.6 more in
      cc
