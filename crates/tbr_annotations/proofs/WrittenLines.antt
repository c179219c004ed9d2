-- Lines of text with vectors in the place of lists.
use Rattle.std.proofs.Common.{◌≡◌, ◌↔◌, ℕ, Bool, IsTrue, List, [], ◌∷◌, ◌++◌, map, refl, ap, ◌∙◌, append-nil}
use Rattle.std.specs.Global.{Vec}
use Rattle.std.proofs.lemmas.List.{map-append}
use Rattle.std.proofs.lemmas.List.Concat.{flat_map-append}
use Rattle.tbr_model.specs.Run.{Item, glyph, marker}
use Rattle.tbr_model.specs.Mapped.{map_items}
use Rattle.tbr_tags.specs.Lists.{equal_lists}
use Rattle.tbr_tagged.specs.Elements.{Element, piece, marker_element, element_items, items_of, text_items, SameItems}
use Rattle.tbr_tagged.specs.Mapped.{MapsElement}
use Rattle.tbr_tagged.specs.View.{element_of}
use Rattle.tbr_tagged.specs.declared.TaggedLineElement.{TaggedLineElement}
use Rattle.tbr_tagged.proofs.MappedTags.{means_same_items}
use Rattle.tbr_tags.specs.Lists.{lists_equal_by_meaning}
use Rattle.tbr_annotations.specs.Written.{vector_meant, Holds, WritesItems}

module _ {A M : Type 0} (meaning : A → M) where
  text_written : (cs : List ℕ) (annotations : List M) (v : Vec A) → Holds meaning annotations v →
      map_items (vector_meant meaning) (text_items cs v) ≡ text_items cs annotations
  text_written [] annotations v h = refl
  text_written (c ∷ cs) annotations v h = rw (h, text_written cs annotations v h) refl

  element_written : (e : Element (List M)) (f : Element (Vec A)) → MapsElement (Holds meaning) e f →
      map_items (vector_meant meaning) (element_items f) ≡ element_items e
  element_written (piece cs a) (piece ds v) h = rw h.0 (text_written cs a v h.1)
  element_written (marker_element m) (marker_element n) h = rw h refl
  element_written (piece cs a) (marker_element n) h = absurd h
  element_written (marker_element m) (piece ds v) h = absurd h

  -- one more element
  pub one_more_written : (eq : A → A → Bool) → ((a b : A) → IsTrue (eq a b) ↔ (meaning a ≡ meaning b)) →
      (old new : List (Element (Vec A))) (es : List (TaggedLineElement (List M))) (e : TaggedLineElement (List M))
      (f : Element (Vec A)) → WritesItems meaning (map element_of es) old → MapsElement (Holds meaning) (element_of e) f →
      SameItems (equal_lists eq) (items_of new) (items_of old ++ element_items f) →
      WritesItems meaning (map element_of (es ++ e ∷ [])) new
  one_more_written eq by_meaning old new es e f seen is pushed =
      let same : map_items (vector_meant meaning) (items_of new) ≡ map_items (vector_meant meaning) (items_of old ++ element_items f) =
      means_same_items (vector_meant meaning) (equal_lists eq)
      (λ v w. (lists_equal_by_meaning meaning eq by_meaning v.items w.items).0) (items_of new) (items_of old ++ element_items f) pushed in
      same ∙ simp (map-append, flat_map-append, append-nil, seen, element_written (element_of e) f is)
