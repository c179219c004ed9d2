-- Mapping tags keeps texts and columns, and makes equal tags the same where they mean the same.
use Rattle.tbr_tagged.proofs.SameItems.{zip_same}
use Rattle.tbr_tagged.proofs.Common.{◌≡◌, ℕ, Bool, Option, List, [], ◌∷◌, ◌++◌, refl, ap, sym, ◌∙◌, arith, AllZip, Item, glyph, marker, items_width, has_character, width_of_text, Element, piece}
use Rattle.tbr_tagged.proofs.Common.{marker_element, element_items, element_characters, items_of, characters, has_piece, SameItem, SameItems, IsMerged, MapsElements, items_width-append}
use Rattle.tbr_model.specs.Mapped.{map_item, map_items, map_lines}
use Rattle.tbr_tagged.specs.Mapped.{MapsElement, MeansEqual}
use Rattle.tbr_tagged.proofs.TextColumns.{items_width-text}

module _ {A B : Type 0} (gives : A → B → Type 0) where
  mapped_text : (e : Element A) (f : Element B) → MapsElement gives e f → element_characters f ≡ element_characters e
  mapped_text (piece cs a) (piece ds b) h = h.0
  mapped_text (marker_element m) (marker_element n) h = refl
  mapped_text _ _ h = absurd h

  pub mapped_characters : (es : List (Element A)) (fs : List (Element B)) → MapsElements gives es fs → characters fs ≡ characters es
  mapped_characters [] [] h = refl
  mapped_characters (e ∷ es) (f ∷ fs) h = ap (λ cs. cs ++ characters fs) (mapped_text e f h.0) ∙ ap (λ cs. element_characters e ++ cs) (mapped_characters es fs h.1)
  mapped_characters _ _ h = absurd h

  mapped_columns : (columns : ℕ → Option ℕ) (e : Element A) (f : Element B) → MapsElement gives e f → items_width columns (element_items f) ≡ items_width columns (element_items e)
  mapped_columns columns (piece cs a) (piece ds b) h = items_width-text columns ds b ∙ ap (width_of_text columns) h.0 ∙ sym (items_width-text columns cs a)
  mapped_columns columns (marker_element m) (marker_element n) h = refl
  mapped_columns columns _ _ h = absurd h

  pub mapped_width : (columns : ℕ → Option ℕ) (es : List (Element A)) (fs : List (Element B)) → MapsElements gives es fs → items_width columns (items_of fs) ≡ items_width columns (items_of es)
  mapped_width columns [] [] h = refl
  mapped_width columns (e ∷ es) (f ∷ fs) h =
      rw (items_width-append columns (element_items f) (items_of fs), items_width-append columns (element_items e) (items_of es), mapped_columns columns e f h.0, mapped_width columns es fs h.1) refl
  mapped_width columns _ _ h = absurd h

module _ {A B : Type 0} (f : A → B) (eq : A → A → Bool) (means : MeansEqual f eq) where
  means_same_item : (i j : Item A) → SameItem eq i j → map_item f i ≡ map_item f j
  means_same_item (glyph c a) (glyph d b) h = grind arith
  means_same_item (marker m) (marker n) h = ap marker h
  means_same_item _ _ h = absurd h

  pub means_same_items : (is js : List (Item A)) → SameItems eq is js → map_items f is ≡ map_items f js
  means_same_items = zip_same (SameItem eq) (map_item f) means_same_item

  pub means_same_lines : (ls ms : List (List (Item A))) → AllZip (SameItems eq) ls ms → map_lines f ls ≡ map_lines f ms
  means_same_lines = zip_same (SameItems eq) (map_items f) means_same_items

-- a merged piece has a character
pub merged_piece_has : {A : Type 0} (eq : A → A → Bool) (es : List (Element A)) → IsMerged eq es → has_piece es ≡ has_character (items_of es)
merged_piece_has eq (piece [] a ∷ es) h = absurd h.0
merged_piece_has eq (marker_element name ∷ es) h = merged_piece_has eq es h.2
merged_piece_has eq _ h = refl
