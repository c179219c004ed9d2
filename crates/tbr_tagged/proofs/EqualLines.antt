-- Equality of lines, element by element.
use Rattle.tbr_tagged.proofs.Common.{◌≡◌, ℕ, Bool, true, false, List, [], ◌∷◌, map, length, get_or, refl, ap, sym, ◌∙◌, arith, IsUtf8, chars-encodes, IsUtf8-string_bytes, string_bytes}
use Rattle.tbr_tagged.proofs.Common.{TaggedLineElement, Str, FragmentStart, Element, piece, marker_element, SameElement, SameElements, element_of}
use Rattle.std.proofs.Common.{◌&&◌}
use Rattle.std.specs.Cmp.{both_ways}
use Rattle.std.specs.Cmp.Lexicographic.{pointwise, nat_list_eq_equiv}
use Rattle.std.specs.Cmp.Lexicographic as lists
use Rattle.std.specs.Str.{chars}
use Rattle.std.specs.declared.string.String.{String}
use Rattle.std.specs.declared.alloc.Global.{Global}
use Rattle.tbr_tagged.specs.declared.element.TaggedString.{TaggedString}
use Rattle.tbr_tags.specs.Lists.{list_copies_equal}
use Rattle.tbr_tagged.specs.Equal.{same_text, equal_elements, equal_lines}

path_same : (cs ds : List ℕ) → cs ≡ ds → same_text cs ds ≡ true
path_same cs ds e = ap (same_text cs) (sym e) ∙ nat_list_eq_equiv.refl cs

same_characters : (bs ds : List ℕ) → IsUtf8 bs → IsUtf8 ds → chars bs ≡ chars ds → bs ≡ ds
same_characters bs ds u v e = grind (arith, ℕ, chars-encodes)

-- texts are equal by their bytes as by their characters
pub same_bytes : (bs ds : List ℕ) → IsUtf8 bs → IsUtf8 ds → same_text bs ds ≡ same_text (chars bs) (chars ds)
same_bytes bs ds u v =
    both_ways (same_text bs ds) (same_text (chars bs) (chars ds))
    (λ h. path_same (chars bs) (chars ds) (ap chars (lists.same_text bs ds (sym h))))
    (λ h. path_same bs ds (same_characters bs ds u v (lists.same_text (chars bs) (chars ds) (sym h))))

-- ---- lines that are the same are equal

same_element_equal : {A : Type 0} (eq : A → A → Bool) (e f : Element A) → SameElement eq e f → equal_elements eq e f ≡ true
same_element_equal eq (piece cs a) (piece ds b) h = rw (path_same cs ds h.0, h.1) refl
same_element_equal eq (marker_element m) (marker_element n) h = path_same m n h
same_element_equal eq _ _ h = absurd h

pub same_lines_equal : {A : Type 0} (eq : A → A → Bool) (es fs : List (Element A)) → SameElements eq es fs → equal_lines eq es fs ≡ true
same_lines_equal eq = list_copies_equal (SameElement eq) (equal_elements eq) (same_element_equal eq)

and_true : (b : Bool) → b ≡ (b && true)
and_true true = refl
and_true false = refl

module _ {A : Type 0} (eq : A → A → Bool) (E : TaggedLineElement A → TaggedLineElement A → Bool)
    (pieces : (s t : TaggedString A) → E (Str s) (Str t) ≡ (same_text (string_bytes s.s) (string_bytes t.s) && eq s.tag t.tag))
    (marks : (m n : String Global) → E (FragmentStart m) (FragmentStart n) ≡ same_text (string_bytes m) (string_bytes n))
    (left : (s : TaggedString A) (n : String Global) → E (Str s) (FragmentStart n) ≡ false)
    (right : (m : String Global) (t : TaggedString A) → E (FragmentStart m) (Str t) ≡ false) where
  same_stored : (x y : TaggedLineElement A) → E x y ≡ equal_elements eq (element_of x) (element_of y)
  same_stored (Str s) (Str t) = pieces s t ∙ ap (λ b. b && eq s.tag t.tag) (same_bytes (string_bytes s.s) (string_bytes t.s) (IsUtf8-string_bytes s.s) (IsUtf8-string_bytes t.s))
  same_stored (FragmentStart m) (FragmentStart n) = marks m n
  same_stored (Str s) (FragmentStart n) = left s n
  same_stored (FragmentStart m) (Str t) = right m t

  -- so are elements that are alone
  pub same_alone : (x y : TaggedLineElement A) → E x y ≡ equal_lines eq (element_of x ∷ []) (element_of y ∷ [])
  same_alone x y = same_stored x y ∙ and_true (equal_elements eq (element_of x) (element_of y))

  pub same_before_one : (x y : TaggedLineElement A) (ys : List (TaggedLineElement A)) → length ys ≡ 1 → y ≡ get_or ys 0 y → E x y ≡ equal_lines eq (element_of x ∷ []) (map element_of ys)
  same_before_one x y (z ∷ []) one is = ap (E x) is ∙ same_alone x z
  same_before_one x y _ one is = absurd (omega arith)

  pub one_before_same : (x y : TaggedLineElement A) (xs : List (TaggedLineElement A)) → length xs ≡ 1 → x ≡ get_or xs 0 x → E x y ≡ equal_lines eq (map element_of xs) (element_of y ∷ [])
  one_before_same x y (z ∷ []) one is = ap (λ w. E w y) is ∙ same_alone z y
  one_before_same x y _ one is = absurd (omega arith)

  -- lines are equal by what is stored as by their elements
  pub same_lines : (xs ys : List (TaggedLineElement A)) → pointwise E xs ys ≡ equal_lines eq (map element_of xs) (map element_of ys)
  same_lines [] [] = refl
  same_lines [] (y ∷ ys) = refl
  same_lines (x ∷ xs) [] = refl
  same_lines (x ∷ xs) (y ∷ ys) = λ i. same_stored x y i && same_lines xs ys i
