-- What is equal up to tags whose equality tells meanings apart is the same.
use Rattle.tbr_tagged.proofs.Common.{◌≡◌, Bool, IsTrue, List, [], ◌∷◌, refl, ap, Item, glyph, marker, Element, piece, marker_element, SameItem, SameItems, SameElement, SameElements}
use Rattle.std.proofs.Common.{◌↔◌}

module _ {M : Type 0} (same : M → M → Bool) (tells : (a b : M) → IsTrue (same a b) ↔ (a ≡ b)) where
  told_item : (i j : Item M) → SameItem same i j → i ≡ j
  told_item (glyph c a) (glyph d b) h = let e = (tells a b).0 h.1 in (λ k. glyph (h.0 k) (e k))
  told_item (marker m) (marker n) h = ap marker h
  told_item (glyph c a) (marker n) h = absurd h
  told_item (marker m) (glyph d b) h = absurd h

  pub told_items : (is js : List (Item M)) → SameItems same is js → is ≡ js
  told_items [] [] h = refl
  told_items (i ∷ is) (j ∷ js) h = let e = told_item i j h.0 in let es = told_items is js h.1 in (λ k. e k ∷ es k)
  told_items [] (j ∷ js) h = absurd h
  told_items (i ∷ is) [] h = absurd h

  told_element : (e f : Element M) → SameElement same e f → e ≡ f
  told_element (piece cs a) (piece ds b) h = let e = (tells a b).0 h.1 in (λ k. piece (h.0 k) (e k))
  told_element (marker_element m) (marker_element n) h = ap marker_element h
  told_element (piece cs a) (marker_element n) h = absurd h
  told_element (marker_element m) (piece ds b) h = absurd h

  pub told_elements : (es fs : List (Element M)) → SameElements same es fs → es ≡ fs
  told_elements [] [] h = refl
  told_elements (e ∷ es) (f ∷ fs) h = let x = told_element e f h.0 in let xs = told_elements es fs h.1 in (λ k. x k ∷ xs k)
  told_elements [] (f ∷ fs) h = absurd h
  told_elements (e ∷ es) [] h = absurd h
