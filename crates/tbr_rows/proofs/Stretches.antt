-- A line's items have one form as elements whose pieces are the longest stretches under equal tags.
use Rattle.tbr_rows.proofs.Common.{◌≡◌, ℕ, Bool, true, List, [], ◌∷◌, ◌++◌, refl, sym, ◌∙◌, arith, IsEquivalence, cond_both, Item, glyph, marker, Element, piece, marker_element, items_of}
use Rattle.tbr_rows.proofs.Common.{text_items, SameItems, SameElements, IsMerged, same_items, same_items_trans, told_items, TellsApart, character_before, longest}
use Rattle.tbr_tagged.specs.Elements.{HasText, IsPartedFrom}
use Rattle.tbr_tags.specs.Tells.{told_equiv}

module _ {A : Type 0} (eq : A → A → Bool) (laws : IsEquivalence eq) where
  -- ---- the longest stretches

  -- A character before elements shows itself and their items.
  before_shows : (c : ℕ) (a : A) (es : List (Element A)) → SameItems eq (items_of (character_before eq c a es)) (glyph c a ∷ items_of es)
  before_shows c a [] = same_items eq laws (glyph c a ∷ [])
  before_shows c a (marker_element name ∷ es) = same_items eq laws (glyph c a ∷ marker name ∷ items_of es)
  before_shows c a (piece cs b ∷ es) =
      cond_both (eq a b) (piece (c ∷ cs) b ∷ es) (piece (c ∷ []) a ∷ piece cs b ∷ es) (λ ds. SameItems eq (items_of ds) (glyph c a ∷ items_of (piece cs b ∷ es)))
      (λ is. ((refl, laws.symm b a ∙ is), same_items eq laws (items_of (piece cs b ∷ es))))
      (λ _. same_items eq laws (glyph c a ∷ items_of (piece cs b ∷ es)))

  -- The longest stretches of items show these items.
  pub stretches_show : (is : List (Item A)) → SameItems eq (items_of (longest eq is)) is
  stretches_show [] = tt
  stretches_show (glyph c a ∷ is) = grind (arith, same_items_trans, before_shows, stretches_show is)
  stretches_show (marker name ∷ is) = (refl, stretches_show is)

  -- What a piece is parted from doesn't depend on its characters.
  parted_alike : (cs ds : List ℕ) (a : A) (es : List (Element A)) → IsPartedFrom eq (piece cs a) es → IsPartedFrom eq (piece ds a) es
  parted_alike cs ds a [] h = tt
  parted_alike cs ds a (piece fs b ∷ es) h = h
  parted_alike cs ds a (marker_element name ∷ es) h = tt

  -- A character before merged elements leaves them merged.
  before_merged : (c : ℕ) (a : A) (es : List (Element A)) → IsMerged eq es → IsMerged eq (character_before eq c a es)
  before_merged c a [] h = (tt, tt, tt)
  before_merged c a (marker_element name ∷ es) h = (tt, tt, h)
  before_merged c a (piece cs b ∷ es) h =
      cond_both (eq a b) (piece (c ∷ cs) b ∷ es) (piece (c ∷ []) a ∷ piece cs b ∷ es) (IsMerged eq) (λ _. (tt, parted_alike cs (c ∷ cs) b es h.1, h.2)) (λ apart. (tt, apart, h))

  -- A marker is parted from whatever comes next.
  marker_parted : (name : List ℕ) (es : List (Element A)) → IsPartedFrom eq (marker_element name) es
  marker_parted name [] = tt
  marker_parted name (e ∷ es) = tt

  -- The longest stretches of items are merged.
  pub stretches_merged : (is : List (Item A)) → IsMerged eq (longest eq is)
  stretches_merged [] = tt
  stretches_merged (glyph c a ∷ is) = before_merged c a (longest eq is) (stretches_merged is)
  stretches_merged (marker name ∷ is) = (tt, marker_parted name (longest eq is), stretches_merged is)

  -- ---- merged lines of the same items

  -- Items that are the same are so the other way round.
  pub same_back : (is js : List (Item A)) → SameItems eq is js → SameItems eq js is
  same_back [] [] h = tt
  same_back (glyph c a ∷ is) (glyph d b ∷ js) h = ((sym h.0.0, laws.symm b a ∙ h.0.1), same_back is js h.1)
  same_back (marker m ∷ is) (marker n ∷ js) h = (sym h.0, same_back is js h.1)
  same_back (glyph c a ∷ is) (marker n ∷ js) h = absurd h.0
  same_back (marker m ∷ is) (glyph d b ∷ js) h = absurd h.0
  same_back _ _ h = absurd h

  -- After the end of a stretch comes no character under an equal tag.
  stops : (a b : A) (d : ℕ) (xs : List ℕ) (es : List (Element A)) (more : List (Item A)) → eq a b ≡ true → IsPartedFrom eq (piece xs a) es → IsMerged eq es →
      SameItems eq (items_of es) (glyph d b ∷ more) → ⊥
  stops a b d xs [] more e p l h = h
  stops a b d xs (piece [] x ∷ es) more e p l h = l.0
  stops a b d xs (piece (c ∷ cs) x ∷ es) more e p l h = grind arith
  stops a b d xs (marker_element n ∷ es) more e p l h = h.0

  -- The rests of two stretches that begin alike are the same text.
  rest_once : (a b : A) (cs ds xs ys : List ℕ) (es fs : List (Element A)) → eq a b ≡ true → IsPartedFrom eq (piece xs a) es → IsPartedFrom eq (piece ys b) fs → IsMerged eq es → IsMerged eq fs →
      SameItems eq (text_items cs a ++ items_of es) (text_items ds b ++ items_of fs) → (cs ≡ ds) × SameItems eq (items_of es) (items_of fs)
  rest_once a b [] [] xs ys es fs e p q l m h = (refl, h)
  rest_once a b (c ∷ cs) (d ∷ ds) xs ys es fs e p q l m h = grind (arith, rest_once a b cs ds xs ys es fs e p q l m h.1)
  rest_once a b [] (d ∷ ds) xs ys es fs e p q l m h = absurd (stops a b d xs es (text_items ds b ++ items_of fs) e p l h)
  rest_once a b (c ∷ cs) [] xs ys es fs e p q l m h =
      absurd (stops b a c ys fs (text_items cs a ++ items_of es) (laws.symm b a ∙ e) q m (same_back (text_items (c ∷ cs) a ++ items_of es) (items_of fs) h))

  -- An element with text has an item.
  some_item : (e : Element A) (es : List (Element A)) → HasText e → SameItems eq [] (items_of (e ∷ es)) → ⊥
  some_item (piece [] a) es t h = t
  some_item (piece (c ∷ cs) a) es t h = h
  some_item (marker_element n) es t h = h

  -- Merged lines of the same items have the same elements.
  pub merged_once : (es fs : List (Element A)) → IsMerged eq es → IsMerged eq fs → SameItems eq (items_of es) (items_of fs) → SameElements eq es fs
  merged_once [] [] l m h = tt
  merged_once [] (f ∷ fs) l m h = absurd (some_item f fs m.0 h)
  merged_once (e ∷ es) [] l m h = absurd (some_item e es l.0 (same_back (items_of (e ∷ es)) [] h))
  merged_once (piece (c ∷ cs) a ∷ es) (piece (d ∷ ds) b ∷ fs) l m h =
      let k = rest_once a b cs ds (c ∷ cs) (d ∷ ds) es fs h.0.1 l.1 m.1 l.2 m.2 h.1 in
      ((rw (h.0.0, k.0) refl, h.0.1), merged_once es fs l.2 m.2 k.1)
  merged_once (marker_element n ∷ es) (marker_element o ∷ fs) l m h = (h.0, merged_once es fs l.2 m.2 h.1)
  merged_once (piece (c ∷ cs) a ∷ es) (marker_element o ∷ fs) l m h = absurd h.0
  merged_once (marker_element n ∷ es) (piece (d ∷ ds) b ∷ fs) l m h = absurd h.0
  merged_once (piece [] a ∷ es) (f ∷ fs) l m h = absurd l.0
  merged_once (e ∷ es) (piece [] b ∷ fs) l m h = absurd m.0

  pub longest_once : (es : List (Element A)) (is : List (Item A)) → SameItems eq (items_of es) is → IsMerged eq es → SameElements eq es (longest eq is)
  longest_once es is shows merged =
      let back = same_back (items_of (longest eq is)) is (stretches_show is) in
      merged_once es (longest eq is) merged (stretches_merged is) (same_items_trans eq laws (items_of es) is (items_of (longest eq is)) shows back)

-- Where tags are told apart, stretches show just the items.
pub longest_items : {A : Type 0} (same : A → A → Bool) → TellsApart same → (is : List (Item A)) → items_of (longest same is) ≡ is
longest_items same tells is = told_items same tells (items_of (longest same is)) is (stretches_show same (told_equiv same tells) is)
