-- Lines that are handed out one by one.
use Rattle.tbr_wrap.proofs.Common.{◌≡◌, ℕ, zero, suc, ◌+◌, ◌-◌, nat_lt, lt-ltb, Option, None, Some, Bool, List, [], ◌∷◌, ◌++◌, take, drop, length, refl, ap, sym, ◌∙◌, arith, take-append-drop}
use Rattle.tbr_wrap.proofs.Common.{cond_both, Item, IsEquivalence, Element, items_of, text_items, SameItems, IsMerged, same_items_trans, same_items_append, same_width, ShowsText, padding_of}
use Rattle.tbr_wrap.proofs.Common.{is_some_list, Block, settings_of, lines, left, line_handed_out}
use Rattle.std.proofs.Common.{add-one}
use Rattle.std.proofs.lemmas.List.{drop-drop}
use Rattle.tbr_tagged.specs.Padding.{spaces}
use Rattle.tbr_tagged.proofs.SameItems.{same_from_path}
use Rattle.tbr_wrap.specs.Block.{lines_handed_out}

pub some_count : {X : Type 0} (xs : List X) → is_some_list xs ≡ nat_lt 0 (length xs)
some_count [] = refl
some_count (x ∷ xs) = sym (lt-ltb 0 (length (x ∷ xs)) (omega arith))

-- what a line that is handed out leaves
module _ {A : Type 0} (s : Block A) where
  pub handed_keeps : ((line_handed_out s).failure ≡ s.failure) × (settings_of (line_handed_out s) ≡ settings_of s) × ((line_handed_out s).events ≡ s.events)
  handed_keeps =
      cond_both (is_some_list s.ended) _ _
      (λ (t : Block A). (t.failure ≡ s.failure) × (settings_of t ≡ settings_of s) × (t.events ≡ s.events))
      (λ _. (refl, refl, refl)) (λ _. (refl, refl, refl))

  pub left_after : (columns : ℕ → Option ℕ) → left columns (line_handed_out s) ≡ drop 1 (left columns s)
  left_after columns = go s.ended refl
    where
      go : (es : List (List (Item A))) → s.ended ≡ es → left columns (line_handed_out s) ≡ drop 1 (left columns s)
      go [] e = rw e (ap (λ m. drop m (lines columns s)) (sym (add-one s.handed)) ∙ sym (drop-drop 1 s.handed (lines columns s)))
      go (t ∷ es) e = rw e refl

-- and many
module _ {A : Type 0} where
  pub many_keep : (n : ℕ) (s : Block A) → ((lines_handed_out n s).failure ≡ s.failure) × (settings_of (lines_handed_out n s) ≡ settings_of s) × ((lines_handed_out n s).events ≡ s.events)
  many_keep zero s = (refl, refl, refl)
  many_keep (suc n) s = let one = handed_keeps s in let more = many_keep n (line_handed_out s) in (more.0 ∙ one.0, more.1 ∙ one.1, more.2 ∙ one.2)

  pub many_left : (columns : ℕ → Option ℕ) (n : ℕ) (s : Block A) → left columns (lines_handed_out n s) ≡ drop n (left columns s)
  many_left columns zero s = refl
  many_left columns (suc n) s =
      let count : 1 + n ≡ suc n = omega arith in
      many_left columns n (line_handed_out s) ∙ ap (drop n) (left_after s columns) ∙ drop-drop n 1 (left columns s) ∙ ap (λ m. drop m (left columns s)) count

  pub handed_and_left : (columns : ℕ → Option ℕ) (n : ℕ) (s : Block A) → take n (left columns s) ++ left columns (lines_handed_out n s) ≡ left columns s
  handed_and_left columns n s = ap (λ ls. take n (left columns s) ++ ls) (many_left columns n s) ∙ take-append-drop n (left columns s)

  pub handed_one_more : (n : ℕ) (s : Block A) → line_handed_out (lines_handed_out n s) ≡ lines_handed_out (suc n) s
  handed_one_more zero s = refl
  handed_one_more (suc n) s = handed_one_more n (line_handed_out s)

-- a text and its padding, where the line is the same up to tags
pub shows_padded : {A : Type 0} (columns : ℕ → Option ℕ) (eq : A → A → Bool) (laws : IsEquivalence eq) (padding : Option A) (width : ℕ) (es fs : List (Element A)) (is : List (Item A)) →
    SameItems eq (items_of fs) (items_of es ++ padding_of columns padding width (items_of es)) → IsMerged eq fs → SameItems eq (items_of es) is → ShowsText columns eq padding width fs is
shows_padded {A} columns eq laws padding width es fs is filled merged same = record {
  items = same_items_trans eq laws (items_of fs) (items_of es ++ padding_of columns padding width (items_of es)) (is ++ padding_of columns padding width is) filled
      (same_items_append eq laws (items_of es) is (padding_of columns padding width (items_of es)) (padding_of columns padding width is) same
      (same_from_path eq laws (padding_of columns padding width (items_of es)) (padding_of columns padding width is) (same_padding padding)));
  merged = merged;
}
  where
    same_padding : (o : Option A) → padding_of columns o width (items_of es) ≡ padding_of columns o width is
    same_padding None = refl
    same_padding (Some a) = ap (λ n. text_items (spaces (width - n)) a) (same_width columns eq (items_of es) is same)

pub unfailed : {X : Type 0} (o : Option X) → ((x : X) → o ≡ Some x → ⊥) → o ≡ None
unfailed None h = refl
unfailed (Some x) h = absurd (h x refl)

pub first_of : {X : Type 0} (xs : List X) → (xs ≡ [] → ⊥) → (x : X) × (rest : List X) × (xs ≡ x ∷ rest)
first_of [] h = absurd (h refl)
first_of (x ∷ xs) h = (x, xs, refl)

pub none_of : {X : Type 0} (xs : List X) → ((x : X) (rest : List X) → xs ≡ x ∷ rest → ⊥) → xs ≡ []
none_of [] h = refl
none_of (x ∷ xs) h = absurd (h x xs refl)
