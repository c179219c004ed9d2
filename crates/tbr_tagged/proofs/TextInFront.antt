-- Text in front of a line of pieces.
use Rattle.tbr_tagged.proofs.Common.{map-append, ◌≡◌, ℕ, ◌<◌, Bool, true, false, Some, List, [], ◌∷◌, ◌++◌, length, refl, ap, ◌∙◌, arith, append_assoc, IsEquivalence, slice_get, cond_both, Element}
use Rattle.tbr_tagged.proofs.Common.{piece, marker_element, element_items, text_items, items_of, SameItems, is_piece_under, text_before, insert_text, HasText, AreParted, IsPartedFrom, IsMerged}
use Rattle.tbr_tagged.proofs.SameItems.{same_items, same_items_append, same_from_path, same_items_trans, same_texts}
use Rattle.tbr_tagged.proofs.TextAfter.{more_text}

module _ {A : Type 0} (eq : A → A → Bool) (laws : IsEquivalence eq) where
  text_in_front : (cs ds : List ℕ) (a b : A) → eq b a ≡ true → SameItems eq (text_items (cs ++ ds) b) (text_items cs a ++ text_items ds b)
  text_in_front cs ds a b h = rw map-append (same_items_append eq laws _ _ _ _ (same_texts eq laws cs b a h) (same_items eq laws (text_items ds b)))

  extended_items : (e : Element A) (cs : List ℕ) (a : A) → is_piece_under eq (Some e) a ≡ true → SameItems eq (element_items (text_before cs e)) (text_items cs a ++ element_items e)
  extended_items (piece ds b) cs a h = text_in_front cs ds a b h
  extended_items (marker_element m) cs a h = cc

  pub items_inserted : (es : List (Element A)) (cs : List ℕ) (a : A) → SameItems eq (items_of (insert_text eq es cs a)) (text_items cs a ++ items_of es)
  items_inserted [] cs a = same_items eq laws (text_items cs a ++ [])
  items_inserted (e ∷ es) cs a =
      cond_both (is_piece_under eq (Some e) a) _ _ (λ (fs : List (Element A)). SameItems eq (items_of fs) (text_items cs a ++ items_of (e ∷ es)))
      (λ under. same_items_trans eq laws (items_of (text_before cs e ∷ es)) ((text_items cs a ++ element_items e) ++ items_of es) (text_items cs a ++ items_of (e ∷ es))
      (same_items_append eq laws (element_items (text_before cs e)) (text_items cs a ++ element_items e) (items_of es) (items_of es) (extended_items e cs a under) (same_items eq laws (items_of es)))
      (same_from_path eq laws ((text_items cs a ++ element_items e) ++ items_of es) (text_items cs a ++ items_of (e ∷ es)) (append_assoc (text_items cs a) (element_items e) (items_of es))))
      (λ _. same_items eq laws (text_items cs a ++ items_of (e ∷ es)))

has_text : {A : Type 0} (cs : List ℕ) (a : A) → 0 < length cs → HasText (piece cs a)
has_text [] a h = absurd (omega arith)
has_text (c ∷ cs) a h = tt

before_has_text : {A : Type 0} (cs : List ℕ) (e : Element A) (a : A) → 0 < length cs → HasText e → HasText (text_before cs e)
before_has_text cs (piece ds b) a h k = more_text cs ds b (has_text cs b h)
before_has_text cs (marker_element m) a h k = k

before_parted : {A : Type 0} (eq : A → A → Bool) (cs : List ℕ) (e f : Element A) → AreParted eq e f → AreParted eq (text_before cs e) f
before_parted eq cs (piece ds b) (piece es d) h = h
before_parted eq cs (piece ds b) (marker_element m) h = h
before_parted eq cs (marker_element m) f h = h

before_parted_from : {A : Type 0} (eq : A → A → Bool) (cs : List ℕ) (e : Element A) (es : List (Element A)) → IsPartedFrom eq e es → IsPartedFrom eq (text_before cs e) es
before_parted_from eq cs e [] h = h
before_parted_from eq cs e (f ∷ es) h = before_parted eq cs e f h

module _ {A : Type 0} (eq : A → A → Bool) (laws : IsEquivalence eq) where
  new_parted : (cs : List ℕ) (a : A) (e : Element A) → is_piece_under eq (Some e) a ≡ false → AreParted eq (piece cs a) e
  new_parted cs a (piece ds b) h = laws.symm a b ∙ h
  new_parted cs a (marker_element m) h = tt

  pub merged_inserted : (es : List (Element A)) (cs : List ℕ) (a : A) → 0 < length cs → IsMerged eq es → IsMerged eq (insert_text eq es cs a)
  merged_inserted [] cs a some h = (has_text cs a some, tt, tt)
  merged_inserted (e ∷ es) cs a some h = grind (arith, cond_both, before_has_text, before_parted_from, has_text, new_parted)

-- ---- the empty text in front

text_none : {A : Type 0} (e : Element A) → text_before [] e ≡ e
text_none (piece ds b) = refl
text_none (marker_element m) = refl

pub none_extends : {A : Type 0} (eq : A → A → Bool) (es : List (Element A)) (a : A) → is_piece_under eq (slice_get es 0) a ≡ true → es ≡ insert_text eq es [] a
none_extends eq [] a under = cc
none_extends eq (e ∷ es) a under = rw (under, text_none) refl

pub none_inserted : {A : Type 0} (eq : A → A → Bool) (es : List (Element A)) (cs : List ℕ) (a : A) → cs ≡ [] → is_piece_under eq (slice_get es 0) a ≡ false → piece cs a ∷ es ≡ insert_text eq es [] a
none_inserted eq [] cs a none under = ap (λ ds. piece ds a ∷ []) none
none_inserted eq (e ∷ es) cs a none under = rw (under, none) refl
