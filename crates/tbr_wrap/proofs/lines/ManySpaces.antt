-- Spaces put many at a time.
use Rattle.tbr_wrap.proofs.Common.{◌≡◌, ℕ, zero, suc, ◌+◌, ◌<◌, true, false, [], ◌∷◌, refl, ap, sym, ◌∙◌, arith, append_assoc, append-nil, ◌==◌, ne_eqb, glyph, Laid, extended, end_line, spaces}
use Rattle.tbr_wrap.proofs.Common.{put_spaces}
use Rattle.std.proofs.Common.{eq-eqb}
use Rattle.tbr_model.specs.Rule.{put_space}

module _ {A : Type 0} (width : ℕ) (a : A) where
  -- spaces after spaces
  pub put_more : (m n : ℕ) (l : Laid A) → put_spaces width a (m + n) l ≡ put_spaces width a n (put_spaces width a m l)
  put_more zero n l = ap (λ k. put_spaces width a k l) (let e : zero + n ≡ n = omega arith in e)
  put_more (suc m) n l = ap (λ k. put_spaces width a k l) (let e : suc m + n ≡ suc (m + n) = omega arith in e) ∙ put_more m n (put_space width a l)

  same_laid : (l m : Laid A) → l.done ≡ m.done → l.line ≡ m.line → l.width ≡ m.width → l ≡ m
  same_laid l m d e w = rw (d, e, w) refl

  one_first : (n : ℕ) (l : Laid A) → extended (extended l (glyph 32 a ∷ []) 1) (spaces n a) n ≡ extended l (spaces (suc n) a) (suc n)
  one_first n l = same_laid _ _ refl (append_assoc l.line (glyph 32 a ∷ []) (spaces n a)) (omega arith)

  -- where they leave room
  pub put_room : (n : ℕ) (l : Laid A) → l.width + n < width → put_spaces width a n l ≡ extended l (spaces n a) n
  put_room zero l h = same_laid _ _ refl (sym (append-nil l.line)) (omega arith)
  put_room (suc n) l h = grind (arith, ne_eqb, one_first, put_room n (extended l (glyph 32 a ∷ []) 1) (omega (arith, h)))

  -- where they fill the line
  pub put_full : (n : ℕ) (l : Laid A) → 0 < n → l.width + n ≡ width → put_spaces width a n l ≡ end_line (extended l (spaces n a) n)
  put_full zero l some e = absurd (omega (arith, some))
  put_full (suc zero) l some e =
      let test : (l.width + 1 == width) ≡ true = eq-eqb _ _ e in
      rw test refl
  put_full (suc (suc n)) l some e =
      let test : (l.width + 1 == width) ≡ false = ne_eqb _ _ (λ f. omega (arith, e, f)) in
      rw test (put_full (suc n) (extended l (glyph 32 a ∷ []) 1) (omega arith) (omega (arith, e)) ∙ ap end_line (one_first (suc n) l))
