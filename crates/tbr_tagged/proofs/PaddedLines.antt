-- Lines with spaces in front and after.
use Rattle.tbr_tagged.proofs.Common.{◌≡◌, ℕ, zero, suc, ◌+◌, ◌<◌, ◌≤◌, Bool, true, false, Option, Some, unwrap_or, List, [], ◌∷◌, ◌++◌, refl, ap, ◌∙◌, arith, IsEquivalence, Item, items_width, Element}
use Rattle.tbr_tagged.proofs.Common.{piece, marker_element, text_items, items_of, SameItems, SameElement, SameElements, is_piece_under, with_text, last_of, extend_last, push_text, text_before}
use Rattle.tbr_tagged.proofs.Common.{insert_text, IsMerged, spaces, columns_in_front, items_width-append}
use Rattle.std.proofs.Common.{cond}
use Rattle.tbr_tagged.specs.declared.padding.CellAlign.{CellAlign}
use Rattle.tbr_tagged.specs.declared.padding.CellAlign.TheVariants.{Left, Right, Centre}
use Rattle.tbr_tagged.specs.Padding.{spaces_before, padded}
use Rattle.tbr_tagged.proofs.SameItems.{all_zip_append, same_items, same_items_append, same_items_trans, items_push, same_width, zip_trans}
use Rattle.tbr_tagged.proofs.TextAfter.{same_elements, pushed_merged}
use Rattle.tbr_tagged.proofs.TextInFront.{items_inserted, merged_inserted}

-- spaces in front, where there are any
pub spaces_before_some : {A : Type 0} (eq : A → A → Bool) (es : List (Element A)) (n : ℕ) (a : A) → 0 < n → spaces_before eq es n a ≡ insert_text eq es (spaces n) a
spaces_before_some eq es zero a h = absurd (omega arith)
spaces_before_some eq es (suc n) a h = refl

pub front_within : (align : CellAlign) (missing : ℕ) → columns_in_front align missing ≤ missing
front_within Left missing = omega arith
front_within Right missing = omega arith
front_within Centre missing = omega arith

module _ {A : Type 0} (eq : A → A → Bool) (laws : IsEquivalence eq) where
  same_element_trans : (d e f : Element A) → SameElement eq d e → SameElement eq e f → SameElement eq d f
  same_element_trans (piece cs a) (piece ds b) (piece es x) h k = (h.0 ∙ k.0, laws.congr a b x h.1 ∙ k.1)
  same_element_trans (piece cs a) (piece ds b) (marker_element n) h k = absurd k
  same_element_trans (marker_element l) (marker_element m) (piece es x) h k = absurd k
  same_element_trans (marker_element l) (marker_element m) (marker_element n) h k = h ∙ k
  same_element_trans _ _ f h k = absurd h

  pub same_elements_trans : (ds es fs : List (Element A)) → SameElements eq ds es → SameElements eq es fs → SameElements eq ds fs
  same_elements_trans = zip_trans (SameElement eq) same_element_trans

  -- the same pieces are under an equal tag
  same_under : (e f : Element A) (a : A) → SameElement eq e f → is_piece_under eq (Some e) a ≡ is_piece_under eq (Some f) a
  same_under (piece cs a) (piece ds b) x h = laws.congr a b x h.1
  same_under (marker_element m) (marker_element n) x h = refl
  same_under _ _ x h = absurd h

  same_with : (e f : Element A) (cs : List ℕ) → SameElement eq e f → SameElement eq (with_text e cs) (with_text f cs)
  same_with (piece cs a) (piece ds b) es h = (ap (λ xs. xs ++ es) h.0, h.1)
  same_with (marker_element m) (marker_element n) es h = h
  same_with _ _ es h = absurd h

  same_last : (es fs : List (Element A)) (a : A) → SameElements eq es fs → is_piece_under eq (last_of es) a ≡ is_piece_under eq (last_of fs) a
  same_last [] [] a h = refl
  same_last (e ∷ []) (f ∷ []) a h = same_under e f a h.0
  same_last (e ∷ []) (f ∷ g ∷ fs) a h = absurd h.1
  same_last (e ∷ d ∷ es) (f ∷ []) a h = absurd h.1
  same_last (e ∷ d ∷ es) (f ∷ g ∷ fs) a h = same_last (d ∷ es) (g ∷ fs) a h.1
  same_last _ _ a h = absurd h

  same_extended : (es fs : List (Element A)) (cs : List ℕ) → SameElements eq es fs → SameElements eq (extend_last es cs) (extend_last fs cs)
  same_extended [] [] cs h = tt
  same_extended (e ∷ []) (f ∷ []) cs h = (same_with e f cs h.0, tt)
  same_extended (e ∷ []) (f ∷ g ∷ fs) cs h = absurd h.1
  same_extended (e ∷ d ∷ es) (f ∷ []) cs h = absurd h.1
  same_extended (e ∷ d ∷ es) (f ∷ g ∷ fs) cs h = (h.0, same_extended (d ∷ es) (g ∷ fs) cs h.1)
  same_extended _ _ cs h = absurd h

  -- text after lines that are the same
  pub same_push : (es fs : List (Element A)) (cs : List ℕ) (a : A) → SameElements eq es fs → SameElements eq (push_text eq es cs a) (push_text eq fs cs a)
  same_push es fs [] a h = h
  same_push es fs (c ∷ cs) a h =
      rw (same_last es fs a h) (go (is_piece_under eq (last_of fs) a))
    where
      go : (t : Bool) → SameElements eq (cond t (extend_last es (c ∷ cs)) (es ++ piece (c ∷ cs) a ∷ [])) (cond t (extend_last fs (c ∷ cs)) (fs ++ piece (c ∷ cs) a ∷ []))
      go true = same_extended es fs (c ∷ cs) h
      go false = all_zip_append (SameElement eq) es (piece (c ∷ cs) a ∷ []) fs (piece (c ∷ cs) a ∷ []) h (same_elements eq laws (piece (c ∷ cs) a ∷ []))

  under_equal : (e : Element A) (a b : A) → eq a b ≡ true → is_piece_under eq (Some e) a ≡ is_piece_under eq (Some e) b
  under_equal (piece cs x) a b h = laws.symm x a ∙ laws.congr a b x h ∙ laws.symm b x
  under_equal (marker_element m) a b h = refl

  -- text in front under an equal tag
  pub same_insert : (es : List (Element A)) (cs : List ℕ) (a b : A) → eq a b ≡ true → SameElements eq (insert_text eq es cs a) (insert_text eq es cs b)
  same_insert [] cs a b h = ((refl, h), tt)
  same_insert (e ∷ es) cs a b h =
      rw (under_equal e a b h) (go (is_piece_under eq (Some e) b))
    where
      go : (t : Bool) → SameElements eq (cond t (text_before cs e ∷ es) (piece cs a ∷ e ∷ es)) (cond t (text_before cs e ∷ es) (piece cs b ∷ e ∷ es))
      go true = same_elements eq laws (text_before cs e ∷ es)
      go false = ((refl, h), same_elements eq laws (e ∷ es))

  before_items : (es : List (Element A)) (n : ℕ) (a : A) → SameItems eq (items_of (spaces_before eq es n a)) (text_items (spaces n) a ++ items_of es)
  before_items es zero a = same_items eq laws (items_of es)
  before_items es (suc n) a = items_inserted eq laws es (spaces (suc n)) a

  pub padded_items : (es : List (Element A)) (front after : ℕ) (a : A) →
      SameItems eq (items_of (padded eq es front after a))
      (text_items (spaces front) a ++ items_of es ++ text_items (spaces after) a)
  padded_items es front after a =
      same_items_trans eq laws (items_of (padded eq es front after a))
      (items_of (spaces_before eq es front a) ++ text_items (spaces after) a)
      (text_items (spaces front) a ++ items_of es ++ text_items (spaces after) a)
      (items_push eq laws (spaces_before eq es front a) (spaces after) a)
      (same_items_append eq laws (items_of (spaces_before eq es front a)) (text_items (spaces front) a ++ items_of es) (text_items (spaces after) a) (text_items (spaces after) a)
      (before_items es front a) (same_items eq laws (text_items (spaces after) a)))

  before_merged : (es : List (Element A)) (n : ℕ) (a : A) → IsMerged eq es → IsMerged eq (spaces_before eq es n a)
  before_merged es zero a h = h
  before_merged es (suc n) a h = merged_inserted eq laws es (spaces (suc n)) a (omega arith) h

  pub padded_merged : (es fs : List (Element A)) (front after : ℕ) (a : A) → SameElements eq fs (padded eq es front after a) → IsMerged eq es → IsMerged eq fs
  padded_merged es fs front after a same h = pushed_merged eq laws (spaces_before eq es front a) fs (spaces after) a (before_merged es front a h) same

  spaces_columns : (columns : ℕ → Option ℕ) (n : ℕ) (a : A) → columns 32 ≡ Some 1 → items_width columns (text_items (spaces n) a) ≡ n
  spaces_columns columns zero a h = refl
  spaces_columns columns (suc n) a h = omega (arith, ap (λ o. unwrap_or o 0) h, spaces_columns columns n a h)

  -- the columns of a padded line
  pub padded_columns : (columns : ℕ → Option ℕ) (is js : List (Item A)) (front after : ℕ) (a : A) → columns 32 ≡ Some 1 →
      SameItems eq is (text_items (spaces front) a ++ js ++ text_items (spaces after) a) → items_width columns is ≡ front + items_width columns js + after
  padded_columns columns is js front after a h same =
      rw (
        same_width columns eq is (text_items (spaces front) a ++ js ++ text_items (spaces after) a) same,
        items_width-append,
        items_width-append,
        spaces_columns columns front a h,
        spaces_columns columns after a h,
      )
      refl
