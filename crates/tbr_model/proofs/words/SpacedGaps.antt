-- What is between neighbouring words of a line.
use Rattle.tbr_model.proofs.Common.{◌≡◌, ℕ, ◌<◌, Bool, false, Option, None, Some, List, [], ◌∷◌, ◌++◌, map, flat_map, length, refl, ap, sym, ◌∙◌, arith, append_assoc, Each, Entry, Item, first_of}
use Rattle.tbr_model.proofs.Common.{blank_of, Word, Slot, slot_of, slots_within, word_slots, gap_text, rest_text, line_text, first_blank}

module _ {A : Type 0} where
  pub rest_text-append : (ss ts : List (Slot A)) → rest_text (ss ++ ts) ≡ rest_text ss ++ rest_text ts
  rest_text-append [] ts = refl
  rest_text-append (s ∷ ss) ts =
      ap (λ is. (gap_text s.gap ++ s.item ∷ []) ++ is) (rest_text-append ss ts) ∙ sym (append_assoc (gap_text s.gap ++ s.item ∷ []) (rest_text ss) (rest_text ts))

  pub inner_text : (columns : ℕ → Option ℕ) (wider : Bool) (is : List (Item A)) → rest_text (map (slot_of columns wider None false) is) ≡ is
  inner_text columns wider [] = refl
  inner_text columns wider (i ∷ is) = ap (λ js. i ∷ js) (inner_text columns wider is)

  within_text : (columns : ℕ → Option ℕ) (wider : Bool) (gap : Option A) (is : List (Item A)) → 0 < length is → rest_text (slots_within columns wider gap is) ≡ gap_text gap ++ is
  within_text columns wider gap [] some = absurd (let none : ⊥ = omega (arith, some) in none)
  within_text columns wider gap (i ∷ is) some =
      append_assoc (gap_text gap) (i ∷ []) (rest_text (map (slot_of columns wider None false) is)) ∙ ap (λ js. gap_text gap ++ i ∷ js) (inner_text columns wider is)

  words_after_text : (columns : ℕ → Option ℕ) (width : ℕ) (ws : List (Word A)) → Each (λ v. 0 < length v.items) ws →
      rest_text (flat_map (word_slots columns width) ws) ≡ flat_map (λ v. gap_text v.gap ++ v.items) ws
  words_after_text columns width [] some = refl
  words_after_text columns width (w ∷ ws) some = grind (arith, rest_text-append, within_text, words_after_text columns width ws some.1)

  first_text : (columns : ℕ → Option ℕ) (wider : Bool) (gap : Option A) (is : List (Item A)) (ss : List (Slot A)) →
      0 < length is → line_text (slots_within columns wider gap is ++ ss) ≡ is ++ rest_text ss
  first_text columns wider gap [] ss some = absurd (let none : ⊥ = omega (arith, some) in none)
  first_text columns wider gap (i ∷ is) ss some =
      ap (λ js. i ∷ js) (rest_text-append (map (slot_of columns wider None false) is) ss ∙ ap (λ js. js ++ rest_text ss) (inner_text columns wider is))

  pub words_text : (columns : ℕ → Option ℕ) (width : ℕ) (w : Word A) (ws : List (Word A)) → Each (λ v. 0 < length v.items) (w ∷ ws) →
      line_text (flat_map (word_slots columns width) (w ∷ ws)) ≡ w.items ++ flat_map (λ v. gap_text v.gap ++ v.items) ws
  words_text columns width w ws some = grind (arith, first_text, words_after_text)

  -- ---- blanks

  first_none : (o p : Option A) → first_of o p ≡ None → (o ≡ None) × (p ≡ None)
  first_none None p e = (refl, e)
  first_none (Some a) p e = cc

  pub none_blank : (es : List (Entry A)) → first_blank es ≡ None → Each (λ e. blank_of e ≡ None) es
  none_blank [] e = tt
  none_blank (x ∷ es) e = let both = first_none (blank_of x) (first_blank es) e in (both.0, none_blank es both.1)

  pub no_blank_found : (es : List (Entry A)) → Each (λ e. blank_of e ≡ None) es → first_blank es ≡ None
  no_blank_found [] h = refl
  no_blank_found (x ∷ es) h = ap (λ o. first_of o (first_blank es)) h.0 ∙ no_blank_found es h.1

pub ruleset gap_laws = (words_text, no_blank_found, none_blank)
