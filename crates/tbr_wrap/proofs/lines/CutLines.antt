-- Lines that are cut out of the items of all of them.
use Rattle.tbr_wrap.proofs.Common.{◌≡◌, ℕ, ◌||◌, List, [], ◌∷◌, ◌++◌, map, length, take, drop, refl, ap, sym, ◌∙◌, subst, arith, append_assoc, list_any, or-false, take_at, drop_at, Item}
use Rattle.tbr_wrap.proofs.Common.{has_character, joined, has_character-append, cut, AreLines}

module _ {X : Type 0} where
  -- none is left where there is no length
  pub none_cut : (lens : List ℕ) (is l : List X) (now rest : List (List X)) → length lens ≡ 0 → cut lens is ≡ now → now ≡ l ∷ rest → ⊥
  none_cut [] is l now rest h e d = let none : [] ≡ l ∷ rest = e ∙ d in absurd (cc)
  none_cut (n ∷ ns) is l now rest h e d = absurd (omega (arith, h))

  pub first_cut : (n : ℕ) (ns lens : List ℕ) (is l : List X) (now rest : List (List X)) → lens ≡ n ∷ ns → cut lens is ≡ now → now ≡ l ∷ rest → (take n is ≡ l) × (cut ns (drop n is) ≡ rest)
  first_cut n ns lens is l now rest h e d = grind arith

  cut_joined : (ls : List (List X)) (after : List X) → cut (map length ls) (joined ls ++ after) ≡ ls
  cut_joined [] after = refl
  cut_joined (l ∷ ls) after =
      rw (append_assoc l (joined ls) after, take_at l (joined ls ++ after) (length l) refl, drop_at l (joined ls ++ after) (length l) refl, cut_joined ls after) refl

module _ {A : Type 0} where
  pub cut_lines : (lens : List ℕ) (placed : List (Item A)) (lines : List (List (Item A))) → AreLines lens placed lines → cut lens placed ≡ lines
  cut_lines lens placed lines h = rw (h.lens_is, h.placed_is) (cut_joined lines h.after)

  pub are_cut : (lens : List ℕ) (placed : List (Item A)) (lines : List (List (Item A))) → AreLines lens placed lines → AreLines lens placed (cut lens placed)
  are_cut lens placed lines h = subst (AreLines lens placed) (sym (cut_lines lens placed lines h)) h

  -- whether there is a character
  joined_any : (ls : List (List (Item A))) → has_character (joined ls) ≡ list_any has_character ls
  joined_any [] = refl
  joined_any (l ∷ ls) = has_character-append l (joined ls) ∙ ap (λ b. has_character l || b) (joined_any ls)

  pub lines_any : (lens : List ℕ) (placed : List (Item A)) (lines : List (List (Item A))) → AreLines lens placed lines → has_character placed ≡ list_any has_character lines
  lines_any lens placed lines h =
      ap has_character h.placed_is ∙ has_character-append (joined lines) h.after ∙ ap (λ b. has_character (joined lines) || b) h.blank ∙ or-false (has_character (joined lines)) ∙ joined_any lines
