-- Characters beside their tags: what they take, and what is left without the spaces and the white space where words
-- part.
use Rattle.tbr_flat.proofs.Common.{◌≡◌, ℕ, suc, zero, ◌+◌, ◌-◌, ◌<◌, ◌≤◌, Bool, true, false, Option, List, [], ◌∷◌, ◌++◌, length, take, drop, replicate, refl, ap, sym, ◌∙◌, arith, append_assoc, Each}
use Rattle.tbr_flat.proofs.Common.{is_whitespace, drop-append_seam, take-append_seam, take-append-drop, drop_at, length-append, length-take, length-drop, length-replicate, drop-append-le, drop-drop}
use Rattle.tbr_flat.proofs.Common.{Item, glyph, items_width, is_glyph, without_leading, without_trailing, width_of_text, flat, glyphs}
use Rattle.std.proofs.Common.{if◌then◌else◌, ne_eqb}
use Rattle.tbr_model.specs.Rule.{is_space_item, is_white_item}
use Rattle.tbr_flat.proofs.TaggedCharacters.{glyphs-drop, glyphs-take, glyphs_kept, length-glyphs}
use Rattle.tbr_flat.proofs.RepeatedTags.{take_after}

module _ {A : Type 0} where
  -- characters alone
  pub all_glyphs : (cs : List ℕ) (ts : List A) → Each (λ i. is_glyph i ≡ true) (glyphs cs ts)
  all_glyphs (c ∷ cs) (t ∷ ts) = (refl, all_glyphs cs ts)
  all_glyphs _ _ = tt

  -- the columns of characters don't depend on their tags
  glyphs_width : (columns : ℕ → Option ℕ) (cs : List ℕ) (ts : List A) → length cs ≤ length ts → width_of_text columns cs ≡ items_width columns (glyphs cs ts)
  glyphs_width columns [] ts h = refl
  glyphs_width columns (c ∷ cs) [] h = absurd (omega arith)
  glyphs_width columns (c ∷ cs) (t ∷ ts) h = omega (arith, glyphs_width columns cs ts (omega arith))

  pub front_columns : (columns : ℕ → Option ℕ) (p w : List ℕ) (ts : List A) (n : ℕ) → length ts ≡ length p + length w →
      width_of_text columns (take n w) ≡ items_width columns (take n (flat p w ts).word)
  front_columns columns p w ts n h =
      let us = drop (length p) ts in
      rw (← glyphs-take n w us) (glyphs_width columns (take n w) us (omega (arith, h, length-drop (length p) ts, length-take n w)))

  pub word_columns : (columns : ℕ → Option ℕ) (p w : List ℕ) (ts : List A) → length ts ≡ length p + length w → width_of_text columns w ≡ items_width columns (flat p w ts).word
  word_columns columns p w ts h = glyphs_width columns w (drop (length p) ts) (omega (arith, h, length-drop (length p) ts))

-- ---- what is trimmed

module _ {A : Type 0} where
  -- in front of nothing
  pub trailing_none : (i : Item A) (is : List (Item A)) (b : Bool) → without_trailing is ≡ [] → is_space_item i ≡ b → without_trailing (i ∷ is) ≡ (if b then [] else i ∷ [])
  trailing_none i is b h e = rw (h, e) refl

  -- in front of an item
  pub trailing_some : (i j : Item A) (is js : List (Item A)) → without_trailing is ≡ j ∷ js → without_trailing (i ∷ is) ≡ i ∷ j ∷ js
  trailing_some i j is js h = rw h refl

  trailing_spaces_none : (n : ℕ) (us : List A) → n ≤ length us → without_trailing (glyphs (replicate n 32) us) ≡ []
  trailing_spaces_none zero us h = refl
  trailing_spaces_none (suc n) [] h = absurd (omega arith)
  trailing_spaces_none (suc n) (u ∷ us) h = trailing_none (glyph 32 u) (glyphs (replicate n 32) us) true (trailing_spaces_none n us (omega arith)) refl

  -- what is left where a text ends with spaces, and no more than these
  trailing_left : (mid : List ℕ) (n : ℕ) (us : List A) → length mid + n ≤ length us → ((f : List ℕ) → mid ≡ f ++ 32 ∷ [] → ⊥) →
      without_trailing (glyphs (mid ++ replicate n 32) us) ≡ take (length mid) (glyphs (mid ++ replicate n 32) us)
  trailing_left [] n us h most = trailing_spaces_none n us (omega arith)
  trailing_left (c ∷ []) n (u ∷ us) h most =
      trailing_none (glyph c u) (glyphs (replicate n 32) us) false (trailing_spaces_none n us (omega arith)) (ne_eqb c 32 (λ e. most [] (ap (λ d. d ∷ []) e)))
  trailing_left (c ∷ d ∷ mid) n (u ∷ v ∷ us) h most = grind (arith, trailing_some, trailing_left (d ∷ mid) n (v ∷ us) (omega arith) (λ f e. most (c ∷ f) (ap (λ es. c ∷ es) e)))
  trailing_left _ n _ h most = absurd (omega arith)

  -- white space in front is dropped, up to a place
  leading_left : (n : ℕ) (cs : List ℕ) (ts : List A) (front rest : List (Item A)) → Each (λ c. is_whitespace c ≡ true) (take n cs) → n ≤ length front →
      (n < length front → (c : ℕ) → (more : List ℕ) → drop n cs ≡ c ∷ more → is_whitespace c ≡ false) → glyphs cs ts ≡ front ++ rest → without_leading front ≡ drop n front
  leading_left zero cs ts [] rest h within most e = refl
  leading_left zero (c ∷ cs) (t ∷ ts) (i ∷ front) rest h within most e =
      let first : i ≡ glyph c t = cc in
      let other : is_white_item i ≡ false = ap is_white_item first ∙ most (omega arith) c cs refl in
      rw other refl
  leading_left (suc n) cs ts [] rest h within most e = absurd (omega arith)
  leading_left (suc n) (c ∷ cs) (t ∷ ts) (i ∷ front) rest h within most e =
      let first : i ≡ glyph c t = cc in
      let after : glyphs cs ts ≡ front ++ rest = cc in
      let white : is_white_item i ≡ true = ap is_white_item first ∙ h.0 in
      rw white (leading_left n cs ts front rest h.1 (omega arith) (λ l. most (omega arith)) after)
  leading_left _ _ _ (i ∷ front) rest h within most e = absurd (cc)

  -- Tags are taken out in front of the last k ones.
  module _ (p w : List ℕ) (ts : List A) (n k : ℕ) (h : length ts ≡ length p + length w) where
    abbrev left : List A
    left = take (length ts - (k + n)) ts ++ drop (length ts - k) ts

    -- the placed characters lose spaces at their end
    module _ (q : List ℕ) (e : p ≡ q ++ replicate n 32) (count : k ≡ length w) where
      pub spaces_len : length p ≡ length q + n
      spaces_len = omega (arith, ap length e, length-append q (replicate n 32), length-replicate {A = ℕ} n 32)

      pub spaces_placed : (flat q w left).placed ≡ take (length q) (flat p w ts).placed
      spaces_placed =
          let front : take (length q) p ≡ q = ap (take (length q)) e ∙ take-append_seam q (replicate n 32) in
          rw (glyphs_kept q (length ts - (k + n)) ts (drop (length ts - k) ts) (omega (arith, h, count, spaces_len)) (omega arith), ← glyphs-take (length q) p ts, front) refl

    -- the word loses its first characters
    module _ (within : n ≤ length w) (count : k ≡ length w - n) where
      first : length ts - (k + n) ≡ length p
      first = omega (arith, h, within, count)

      pub blanks_placed : (flat p (drop n w) left).placed ≡ (flat p w ts).placed
      blanks_placed = glyphs_kept p (length ts - (k + n)) ts (drop (length ts - k) ts) (omega (arith, first)) (omega arith)

      pub blanks_word : (flat p (drop n w) left).word ≡ drop n (flat p w ts).word
      blanks_word =
          let len : length (take (length ts - (k + n)) ts) ≡ length p = omega (arith, first, h, length-take (length ts - (k + n)) ts) in
          let second : length ts - k ≡ length p + n = omega (arith, h, within, count) in
          rw (drop_at (take (length ts - (k + n)) ts) (drop (length ts - k) ts) (length p) len, second, ← drop-drop n (length p) ts, glyphs-drop) refl

  -- a line loses the spaces at its end
  pub line_trimmed : (cs front : List ℕ) (ts : List A) (n most : ℕ) (before line : List (Item A)) → length cs ≤ length ts → n ≤ most → cs ≡ front ++ replicate n 32 →
      (n < most → (f : List ℕ) → cs ≡ f ++ replicate (suc n) 32 → ⊥) → glyphs cs ts ≡ before ++ line → length line ≡ most →
      (take (length front) (glyphs cs ts) ≡ before ++ without_trailing line) × (n + length (without_trailing line) ≡ length line)
  line_trimmed cs front ts n most before line h less e all parts len =
      let k = length before in let mid = drop k front in let us = drop k ts in
      let whole : length cs ≡ k + most = omega (arith, sym (length-glyphs cs ts h), ap length parts, length-append before line, len) in
      let front_len : length front + n ≡ length cs = omega (arith, ap length e, length-append front (replicate n 32), length-replicate {A = ℕ} n 32) in
      let mid_len : length mid + n ≡ most = omega (arith, length-drop k front, front_len, whole, less) in
      let rest : drop k cs ≡ mid ++ replicate n 32 = ap (λ ds. drop k ds) e ∙ drop-append-le k front (replicate n 32) (omega (arith, front_len, whole, less)) in
      let line_is : line ≡ glyphs (mid ++ replicate n 32) us =
      sym (drop-append_seam before line) ∙ ap (λ is. drop k is) (sym parts) ∙ sym (glyphs-drop k cs ts) ∙ ap (λ ds. glyphs ds us) rest in
      let none : (f : List ℕ) → mid ≡ f ++ 32 ∷ [] → ⊥ = λ f g.
      all (omega (arith, mid_len, ap length g, length-append f (32 ∷ []))) (take k front ++ f)
      (e ∙ ap (λ ds. ds ++ replicate n 32) (sym (take-append-drop k front) ∙ ap (λ ds. take k front ++ ds) g ∙ sym (append_assoc (take k front) f (32 ∷ [])))
      ∙ append_assoc (take k front ++ f) (32 ∷ []) (replicate n 32)) in
      let left : without_trailing line ≡ take (length mid) line =
      ap without_trailing line_is ∙ trailing_left mid n us (omega (arith, mid_len, whole, h, length-drop k ts)) none ∙ ap (λ is. take (length mid) is) (sym line_is) in
      let count : length front ≡ k + length mid = omega (arith, front_len, whole, mid_len) in (
        ap (take (length front)) parts ∙ take_after before line (length mid) (length front) count ∙ ap (λ is. before ++ is) (sym left),
        omega (arith, ap length left, length-take (length mid) line, len, mid_len),
      )

  -- the first of a word's characters lose the white space in front
  pub word_trimmed : (cs : List ℕ) (ts : List A) (n first : ℕ) (front rest : List (Item A)) → Each (λ c. is_whitespace c ≡ true) (take n cs) → n ≤ first →
      (n < first → (c : ℕ) → (more : List ℕ) → drop n cs ≡ c ∷ more → is_whitespace c ≡ false) → glyphs cs ts ≡ front ++ rest → length front ≡ first →
      (drop n (glyphs cs ts) ≡ without_leading front ++ rest) × (n + length (without_leading front) ≡ length front)
  word_trimmed cs ts n first front rest h less most parts len =
      let within : n ≤ length front = omega (arith, less, len) in
      let left : without_leading front ≡ drop n front = leading_left n cs ts front rest h within (λ l. most (omega (arith, l, len))) parts in (
        ap (drop n) parts ∙ drop-append-le n front rest within ∙ ap (λ is. is ++ rest) (sym left),
        omega (arith, ap length left, length-drop n front),
      )
