-- What the fields hold is what the rule lays.
use Rattle.tbr_wrap.proofs.Common.{Ok, ◌≡◌, ◌≢◌, None, ℕ, zero, suc, Some, ◌+◌, ◌<◌, ◌≤◌, Bool, true, false, Option, List, [], ◌∷◌, length, take, drop, refl, ap, sym, ◌∙◌, arith, append_assoc}
use Rattle.tbr_wrap.proofs.Common.{unwrap_or, IsEquivalence, length_all_zip, Item, item_width, items_width, has_character, IsNarrow, spaces, Laid, extended, end_line, end_if_character, end_if_columns}
use Rattle.tbr_wrap.proofs.Common.{put_items, no_character_no_width, SameItem, SameItems, HoldsLaid, LaidLikeRule, HoldsRule, KeepsLimits, LaidLines, same_items_append, all_zip_append, same_has}
use Rattle.tbr_wrap.proofs.Common.{same_width, same_take}
use Rattle.std.proofs.Common.{MatchOption}
use Rattle.tbr_model.specs.Laid.{put_item}
use Rattle.tbr_wrap.specs.LaidLines.{PutsFront}
use Rattle.tbr_wrap.proofs.lines.LineWidths.{measured_ended, measured_extended, measured_wide}

module _ {A : Type 0} (eq : A → A → Bool) (laws : IsEquivalence eq) (given : List (List (Item A))) where
  pub shows_ended : (l r : Laid A) → LaidLikeRule eq given l r → LaidLikeRule eq given (end_line l) (end_line r)
  shows_ended l r h = grind (arith, append_assoc, all_zip_append)

  pub shows_extended : (l r : Laid A) (is js : List (Item A)) (m n : ℕ) → LaidLikeRule eq given l r → SameItems eq is js → m ≡ n → LaidLikeRule eq given (extended l is m) (extended r js n)
  shows_extended l r is js m n h same e = grind (arith, same_items_append)

module _ {A : Type 0} (columns : ℕ → Option ℕ) (eq : A → A → Bool) (laws : IsEquivalence eq) (b c : LaidLines A)
    (same : KeepsLimits b c) (before given : List (List (Item A))) (r : Laid A)
    (h : HoldsRule columns eq b before given r) where
  pub lays_ended : HoldsLaid c before (end_line h.laid) → HoldsRule columns eq c before given (end_line r)
  lays_ended k = record {
    laid = end_line h.laid;
    holds = k;
    shows = shows_ended eq laws given h.laid r h.shows;
    measured = rw same.width (rw same.may_overflow (measured_ended columns b.width b.may_overflow r h.measured));
  }

  pub lays_extended : (is js : List (Item A)) (n : ℕ) → SameItems eq is js → n ≡ items_width columns js →
      b.line_width + n ≤ b.width → HoldsLaid c before (extended h.laid is n) →
      HoldsRule columns eq c before given (extended r js n)
  lays_extended is js n items e room k = record {
    laid = extended h.laid is n;
    holds = k;
    shows = shows_extended eq laws given h.laid r is js n n h.shows items refl;
    measured = rw same.width (rw same.may_overflow (measured_extended columns b.width b.may_overflow r js n h.measured e (omega (arith, room, h.holds.width, h.shows.width))));
  }

  pub lays_wide : (i j : Item A) → SameItem eq i j → b.may_overflow ≡ true → b.line_width ≡ 0 →
      b.width < item_width columns j → HoldsLaid c before (end_line (extended h.laid (i ∷ []) (item_width columns j))) →
      HoldsRule columns eq c before given (end_line (extended r (j ∷ []) (item_width columns j)))
  lays_wide i j item may none wide k = record {
    laid = end_line (extended h.laid (i ∷ []) (item_width columns j));
    holds = k;
    shows =
        shows_ended eq laws given (extended h.laid (i ∷ []) (item_width columns j))
        (extended r (j ∷ []) (item_width columns j))
        (shows_extended eq laws given h.laid r (i ∷ []) (j ∷ []) (item_width columns j) (item_width columns j) h.shows (item, tt) refl);
    measured = rw same.width (rw same.may_overflow (measured_wide columns b.width b.may_overflow r j h.measured may (omega (arith, none, h.holds.width, h.shows.width)) (omega (arith, wide))));
  }

  -- where the fields hold the same
  pub lays_same : HoldsLaid c before h.laid → HoldsRule columns eq c before given r
  lays_same k = record { laid = h.laid; holds = k; shows = h.shows; measured = rw same.width (rw same.may_overflow h.measured) }

  -- a line without a character isn't ended
  pub lays_none : has_character h.laid.line ≡ false → HoldsLaid c before h.laid → c.line_width ≡ b.line_width → HoldsRule columns eq c before given (end_if_character r) × (c.line_width ≡ 0)
  lays_none none k width =
      let test : has_character r.line ≡ false = sym (same_has eq h.laid.line r.line h.shows.last) ∙ none in
      (rw test (lays_same k), omega (arith, width, h.holds.width, h.shows.width, h.measured.line, no_character_no_width columns r.line test))

  -- and one with a character is
  pub lays_some : has_character h.laid.line ≡ true → HoldsRule columns eq c before given (end_line r) → HoldsRule columns eq c before given (end_if_character r)
  lays_some some k = let test : has_character r.line ≡ true = sym (same_has eq h.laid.line r.line h.shows.last) ∙ some in rw test k

-- ---- which case of putting an item it is

module _ {A : Type 0} (columns : ℕ → Option ℕ) (width : ℕ) (P : Laid A → Type 0) (r : Laid A) (i : Item A) where
  pub item_wide : width < item_width columns i → P (end_line (extended (end_if_columns r) (i ∷ []) (item_width columns i))) → P (put_item columns width r i)
  item_wide wide h = grind arith

-- items of which the first doesn't fit the open line, and fits a fresh one
pub put_fresh : {A : Type 0} (columns : ℕ → Option ℕ) (width : ℕ) (r : Laid A) (js : List (Item A)) (n : ℕ) → 0 < n →
    r.width ≤ width → width < r.width + items_width columns (take 1 js) → items_width columns (take 1 js) ≤ width →
    put_items columns width r (take n js) ≡ put_items columns width (end_line r) (take n js)
put_fresh {A} columns width r js zero some small full fits = absurd (omega (arith, some))
put_fresh {A} columns width r [] (suc n) some small full fits = absurd (omega (arith, small, full))
put_fresh {A} columns width r (j ∷ js) (suc n) some small full fits = grind arith

-- the rest of a word is as narrow as all of it
pub narrow_rest : {A : Type 0} (columns : ℕ → Option ℕ) (width n : ℕ) (word : List (Item A)) → IsNarrow columns width word → IsNarrow columns width (drop n word)
narrow_rest columns width zero word h = h
narrow_rest columns width (suc n) [] h = h
narrow_rest columns width (suc n) (i ∷ is) h = narrow_rest columns width n is h.1

-- items that are put at two goes
pub put_parts : {A : Type 0} (columns : ℕ → Option ℕ) (width : ℕ) (l : Laid A) (n : ℕ) (is : List (Item A)) →
    put_items columns width l is ≡ put_items columns width (put_items columns width l (take n is)) (drop n is)
put_parts columns width l (suc n) (i ∷ is) = put_parts columns width (put_item columns width l i) n is
put_parts columns width l _ _ = refl

-- ---- spaces

pub same_spaces : {A : Type 0} (eq : A → A → Bool) (n : ℕ) (a b : A) → eq a b ≡ true → SameItems eq (spaces n a) (spaces n b)
same_spaces eq zero a b h = tt
same_spaces eq (suc n) a b h = ((refl, h), same_spaces eq n a b h)

pub spaces_width : {A : Type 0} (columns : ℕ → Option ℕ) → columns 32 ≡ Some 1 → (n : ℕ) (a : A) → items_width columns (spaces n a) ≡ n
spaces_width columns one zero a = refl
spaces_width columns one (suc n) a = omega (arith, ap (λ o. unwrap_or o 0) one, spaces_width columns one n a)

pub spaces_length : {A : Type 0} (n : ℕ) (a : A) → length (spaces n a) ≡ n
spaces_length zero a = refl
spaces_length (suc n) a = ap suc (spaces_length n a)

-- items that are the same as others begin as these
pub same_first : {A : Type 0} (eq : A → A → Bool) (is js : List (Item A)) (j : Item A) → SameItems eq is (j ∷ js) → (i : Item A) × (rest : List (Item A)) × (is ≡ i ∷ rest) × SameItem eq i j
same_first eq [] js j h = absurd h
same_first eq (i ∷ is) js j h = (i, is, refl, h.0)

pub some_same : {A : Type 0} (eq : A → A → Bool) (is js : List (Item A)) → 0 < length is → SameItems eq is js → (j : Item A) × (rest : List (Item A)) × (js ≡ j ∷ rest)
some_same eq is [] some h = absurd (omega (arith, some, length_all_zip (SameItem eq) is [] h))
some_same eq is (j ∷ js) some h = (j, js, refl)

pub none_same : {A : Type 0} (eq : A → A → Bool) (js : List (Item A)) → SameItems eq [] js → js ≡ []
none_same eq [] h = refl
none_same eq (j ∷ js) h = absurd h

-- a word without a first item
pub none_first : {A : Type 0} (columns : ℕ → Option ℕ) (o : Option ℕ) (word : List (Item A)) →
    MatchOption o (word ≡ [])
    (λ n. (i : Item A) × (rest : List (Item A)) × (word ≡ i ∷ rest) × (n ≡ item_width columns i)) →
    ((n : ℕ) → o ≢ Some n) → word ≡ []
none_first columns None word h not = h
none_first columns (Some n) word h not = absurd (not n refl)

pub first_columns : {A : Type 0} (columns : ℕ → Option ℕ) (n : ℕ) (word : List (Item A)) →
    (i : Item A) × (rest : List (Item A)) × (word ≡ i ∷ rest) × (n ≡ item_width columns i) →
    n ≡ items_width columns (take 1 word)
first_columns columns n word (i, rest, is, width) = rw is (omega (arith, width))

-- ---- items that a word begins with are put

module _ {A E F : Type 0} (columns : ℕ → Option ℕ) (eq : A → A → Bool) (laws : IsEquivalence eq) (b mid c : LaidLines A) (f : PutsFront {E = E} columns eq mid c (Ok tt)) where
  pub put_here : mid ≡ b → PutsFront {E = F} columns eq b c (Ok tt)
  put_here same = grind arith

  -- on a fresh line
  pub put_next : mid.flat ≡ b.flat → mid.width ≡ b.width →
      ((before given : List (List (Item A))) (r : Laid A) → HoldsRule columns eq b before given r → HoldsRule columns eq
      mid before given (end_line r)) →
      b.width < b.line_width + items_width columns (take 1 b.flat.word) → items_width columns (take 1 b.flat.word) ≤ b.width → PutsFront {E = F} columns eq b c (Ok tt)
  put_next flat width ended full fits = grind (arith, same_width, same_take, put_fresh)
