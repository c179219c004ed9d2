-- What lines lack of a width.
use Rattle.tbr_wrap.proofs.Common.{◌≡◌, ℕ, ◌-◌, ◌<◌, Option, List, [], ◌∷◌, ◌++◌, map, length, take, drop, refl, sym, ◌∙◌, arith, append_assoc, append-nil, Item, items_width, cut}
use Rattle.std.proofs.Common.{◌^◌, min}
use Rattle.std.proofs.lemmas.List.{take-map, drop-map}
use Rattle.tbr_flat.specs.Walk.{character_in, given_width}
use Rattle.tbr_flat.proofs.WalkedItems.{width_given}

-- what lines of these lengths lack, as a walk gives them
abbrev pub lacking : (ℕ → Option ℕ) → ℕ → List ℕ → List (Option ℕ) → List ℕ
lacking columns width lens given = map (λ os. width - given_width columns os) (cut lens given)

abbrev pub lines_lacking : {A : Type 0} → (ℕ → Option ℕ) → ℕ → List (List (Item A)) → List ℕ
lines_lacking columns width lines = map (λ is. width - items_width columns is) lines

module _ (columns : ℕ → Option ℕ) (width : ℕ) where
  lines_lack : {A : Type 0} (lens : List ℕ) (is : List (Item A)) → lines_lacking columns width (cut lens is) ≡ lacking columns width lens (map character_in is)
  lines_lack [] is = refl
  lines_lack (n ∷ ns) is =
      rw (take-map character_in n is, drop-map character_in n is, width_given columns (take n is), lines_lack ns (drop n is)) refl

  -- before the first line
  pub lacking_first : {A : Type 0} (lens left found : List ℕ) (is : List (Item A)) (lines : List (List (Item A)))
      (given : List (Option ℕ)) → cut lens is ≡ lines → left ≡ lens → given ≡ map character_in is → found ≡ [] →
      lines_lacking columns width lines ≡ found ++ lacking columns width left given
  lacking_first lens left found is lines given e l g f = rw (← e, l, g, f) (lines_lack lens is)

  -- one line more
  pub lacking_next : (all found new left rest : List ℕ) (given after : List (Option ℕ)) (n w lack : ℕ) → all ≡ found ++ lacking columns width left given → left ≡ n ∷ rest →
      w ≡ min (given_width columns (take n given)) (2 ^ 64 - 1) → width < 2 ^ 64 → lack ≡ width - w → after ≡ drop n given → new ≡ found ++ lack ∷ [] →
      all ≡ new ++ lacking columns width rest after
  lacking_next all found new left rest given after n w lack h l is small e d m = grind (arith, append_assoc)

  -- after the last line
  pub lacking_last : (all found left : List ℕ) (given : List (Option ℕ)) → all ≡ found ++ lacking columns width left given → length left ≡ 0 → found ≡ all
  lacking_last all found [] given h none = sym (h ∙ append-nil found)
  lacking_last all found (n ∷ ns) given h none = absurd (omega (arith, none))
