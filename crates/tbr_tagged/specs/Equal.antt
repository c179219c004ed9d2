-- Equality of lines, by their elements.
use Rattle.std.specs.Prelude.{◌≡◌, ℕ, ◌&&◌, Bool, true, false, List, refl, nat_eq}
use Rattle.std.specs.Cmp.{IsPartialEquivalence, first_so, second_so, partial_equiv_from_equiv}
use Rattle.std.specs.Cmp.Lexicographic.{pointwise, lists_per, nat_list_eq_equiv}
use Rattle.tbr_tagged.specs.Elements.{Element, piece, marker_element}

abbrev pub same_text : List ℕ → List ℕ → Bool
same_text = pointwise nat_eq

-- the same text under an equal tag, or the same marker
abbrev pub equal_elements : {A : Type 0} → (A → A → Bool) → Element A → Element A → Bool
equal_elements eq (piece cs a) (piece ds b) = same_text cs ds && eq a b
equal_elements eq (marker_element m) (marker_element n) = same_text m n
equal_elements eq (piece cs a) (marker_element n) = false
equal_elements eq (marker_element m) (piece ds b) = false

-- as many elements, equal in order
abbrev pub equal_lines : {A : Type 0} → (A → A → Bool) → List (Element A) → List (Element A) → Bool
equal_lines eq = pointwise (equal_elements eq)

module _ {A : Type 0} {eq : A → A → Bool} (laws : IsPartialEquivalence eq) where
  symm : (e f : Element A) → equal_elements eq e f ≡ equal_elements eq f e
  symm (piece cs a) (piece ds b) = λ i. nat_list_eq_equiv.symm cs ds i && laws.symm a b i
  symm (marker_element m) (marker_element n) = nat_list_eq_equiv.symm m n
  symm (piece cs a) (marker_element n) = refl
  symm (marker_element m) (piece ds b) = refl

  texts_trans : (cs ds es : List ℕ) → same_text cs ds ≡ true → same_text ds es ≡ true → same_text cs es ≡ true
  texts_trans = (partial_equiv_from_equiv nat_list_eq_equiv).trans

  trans : (e f g : Element A) →
      equal_elements eq e f ≡ true → equal_elements eq f g ≡ true → equal_elements eq e g ≡ true
  trans (piece cs a) (piece ds b) (piece es x) h k =
      let texts =
      texts_trans cs ds es (first_so (same_text cs ds) (eq a b) h) (first_so (same_text ds es) (eq b x) k) in
      let tags =
      laws.trans a b x (second_so (same_text cs ds) (eq a b) h) (second_so (same_text ds es) (eq b x) k) in
      λ i. texts i && tags i
  trans (marker_element m) (marker_element n) (marker_element o) h k = texts_trans m n o h k
  trans (piece cs a) (marker_element n) g h k = absurd (let no : false ≡ true = h in cc)
  trans (marker_element m) (piece ds b) g h k = absurd (let no : false ≡ true = h in cc)
  trans (piece cs a) (piece ds b) (marker_element n) h k = absurd (let no : false ≡ true = k in cc)
  trans (marker_element m) (marker_element n) (piece ds b) h k = absurd (let no : false ≡ true = k in cc)

  pub equal_lines_laws : IsPartialEquivalence (equal_lines eq)
  equal_lines_laws = lists_per (record { symm = symm; trans = trans })
