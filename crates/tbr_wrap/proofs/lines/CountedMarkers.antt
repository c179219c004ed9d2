-- The markers among items, counted.
use Rattle.tbr_wrap.proofs.Common.{trailing_cases, ◌≡◌, ℕ, zero, suc, nat_lt, ◌≤◌, true, List, [], ◌∷◌, length, refl, ◌∙◌, arith, cases_lt, Item, glyph, marker, has_character, spaces, is_space_item}
use Rattle.tbr_wrap.proofs.Common.{without_trailing, names_in_items, markers-append}
use Rattle.std.proofs.lemmas.Bool.{lt-ltb, le-ltb}

pub markers_within : {A : Type 0} (is : List (Item A)) → length (names_in_items is) ≤ length is
markers_within [] = omega arith
markers_within (glyph c a ∷ is) = omega (arith, markers_within is)
markers_within (marker name ∷ is) = omega (arith, markers_within is)

one_more : (m n : ℕ) → nat_lt (suc m) (suc n) ≡ nat_lt m n
one_more m n = grind (arith, cases_lt, lt-ltb, le-ltb)

-- there is a character where there are more items than markers
pub has_from_counts : {A : Type 0} (is : List (Item A)) → nat_lt (length (names_in_items is)) (length is) ≡ has_character is
has_from_counts [] = refl
has_from_counts (glyph c a ∷ is) = lt-ltb _ _ (omega (arith, markers_within is))
has_from_counts (marker name ∷ is) = one_more (length (names_in_items is)) (length is) ∙ has_from_counts is

pub spaces_markers : {A : Type 0} (n : ℕ) (a : A) → length (names_in_items (spaces n a)) ≡ 0
spaces_markers zero a = refl
spaces_markers (suc n) a = spaces_markers n a

space_markers : {A : Type 0} (i : Item A) → is_space_item i ≡ true → length (names_in_items (i ∷ [])) ≡ 0
space_markers (glyph c a) e = refl
space_markers (marker name) e = cc

-- spaces that are taken away at the end are no markers
pub trailing_markers : {A : Type 0} (is : List (Item A)) → length (names_in_items (without_trailing is)) ≡ length (names_in_items is)
trailing_markers {A} is =
    trailing_cases (λ (is js : List (Item A)). length (names_in_items js) ≡ length (names_in_items is)) refl (λ i is js h. omega (arith, h, markers-append (i ∷ []) is, markers-append (i ∷ []) js))
    (λ i is s h. omega (arith, h, space_markers i s, markers-append (i ∷ []) is)) is
