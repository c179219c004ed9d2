-- Lines of a row, built text by text.
use Rattle.tbr_rows.proofs.Common.{◌≡◌, ℕ, ◌+◌, ◌<◌, Bool, true, List, [], ◌∷◌, ◌++◌, map, take, drop, get_or, length, refl, sym, ◌∙◌, subst, arith, append_assoc, append-nil, drop-cons}
use Rattle.tbr_rows.proofs.Common.{IsEquivalence, map_push, length-take-le, length-map, get_or_at, Item, Element, items_of, text_items, SameItems, same_items, same_items_trans}
use Rattle.tbr_rows.proofs.Common.{same_items_append, same_texts, Column, row_text, separator_before, cell_text, line_text, dropped}
use Rattle.std.proofs.lemmas.List.{take_more}
use Rattle.tbr_tagged.proofs.SameItems.{same_from_path}

pub row_text_more : {A : Type 0} (separator : Item A) (ts : List (List (Item A))) (t : List (Item A)) →
    row_text separator (ts ++ t ∷ []) ≡ row_text separator ts ++ (separator_before separator (length ts) ++ t)
row_text_more separator [] t = refl
row_text_more separator (u ∷ []) t = refl
row_text_more separator (u ∷ v ∷ ts) t = rw (row_text_more separator (v ∷ ts) t) (simp append_assoc)

-- the cell that a loop reads, where the cells before it have changed
pub read_dropped : {A : Type 0} (xs : List (Column A)) (i : ℕ) (x : Column A) → i < length xs → x ≡ get_or (map (dropped 1) (take i xs) ++ drop i xs) i x → x ≡ get_or xs i x
read_dropped {A} xs i x below is = grind (arith, length-map, length-take-le, drop-cons, get_or_at)

module _ {A : Type 0} (eq : A → A → Bool) (laws : IsEquivalence eq) where
  -- after a line comes what equals something
  pub after_same : (old new : List (Element A)) (is js : List (Item A)) → SameItems eq is js → SameItems eq (items_of new) (items_of old ++ is) → SameItems eq (items_of new) (items_of old ++ js)
  after_same old new is js e h =
      same_items_trans eq laws (items_of new) (items_of old ++ is) (items_of old ++ js) h (same_items_append eq laws (items_of old) (items_of old) is js (same_items eq laws (items_of old)) e)

  -- after a line comes a text under a copy of a tag
  pub text_after : (old new : List (Element A)) (cs ds : List ℕ) (a b : A) → ds ≡ cs → eq b a ≡ true →
      SameItems eq (items_of new) (items_of old ++ text_items ds b) → SameItems eq (items_of new) (items_of old ++ text_items cs a)
  text_after old new cs ds a b e k h =
      after_same old new (text_items ds b) (text_items cs a) (subst (λ es. SameItems eq (text_items ds b) (text_items es a)) e (same_texts eq laws ds b a k)) h

  -- nothing comes after a line yet
  pub after_nothing : (line : List (Element A)) → SameItems eq (items_of line) (items_of line ++ [])
  after_nothing line = same_from_path eq laws (items_of line) (items_of line ++ []) (sym (append-nil (items_of line)))

  -- what equals something, and then more
  onto : (is js more ks : List (Item A)) → SameItems eq is js → SameItems eq ks (is ++ more) → SameItems eq ks (js ++ more)
  onto is js more ks h k = same_items_trans eq laws ks (is ++ more) (js ++ more) k (same_items_append eq laws is js more more h (same_items eq laws more))

  -- one more cell of a line of a row
  pub one_more_cell : (separator : Item A) (a : A) (xs : List (Column A)) (i : ℕ) (x : Column A) (old middle new : List (Element A)) → i < length xs → x ≡ get_or xs i x →
      SameItems eq (items_of old) (line_text separator a (take i xs) 0) →
      SameItems eq (items_of middle) (items_of old ++ separator_before separator i) →
      SameItems eq (items_of new) (items_of middle ++ cell_text a 0 x) →
      SameItems eq (items_of new) (line_text separator a (take (i + 1) xs) 0)
  one_more_cell separator a xs i x old middle new below is h k l =
      let texts = map (cell_text a 0) (take i xs) in
      let so_far : List (Item A) = row_text separator texts in
      let bar : List (Item A) = separator_before separator i in
      let text : List (Item A) = cell_text a 0 x in
      let long : length texts ≡ i = length-map (take i xs) (cell_text a 0) ∙ length-take-le i xs (omega (arith, below)) in
      rw (take_more xs i x below, ← is, map_push, row_text_more, long, ← append_assoc so_far)
      (onto (items_of middle) (so_far ++ bar) text (items_of new) (onto (items_of old) so_far bar (items_of middle) h k) l)
