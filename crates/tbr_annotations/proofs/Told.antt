-- Lists of annotations are equal exactly where they mean the same, and so is what is under them.
use Rattle.std.proofs.Common.{◌≡◌, ◌↔◌, Bool, true, IsTrue, List}
use Rattle.tbr_model.specs.Run.{Item}
use Rattle.tbr_tagged.specs.Elements.{Element, SameItems, SameElements}
use Rattle.tbr_tags.specs.Tells.{lists_tell}
use Rattle.tbr_tagged.proofs.Told.{told_items, told_elements}
use Rattle.tbr_annotations.specs.Annotations.{same_annotations}

module _ {M : Type 0} (same : M → M → Bool) (tells : (a b : M) → IsTrue (same a b) ↔ (a ≡ b)) where
  pub annotations_tell : (v w : List M) → IsTrue (same_annotations same v w) ↔ (v ≡ w)
  annotations_tell = lists_tell same tells

  pub items_told : (is js : List (Item (List M))) → SameItems (same_annotations same) is js → is ≡ js
  items_told = told_items (same_annotations same) annotations_tell

  pub elements_told : (es fs : List (Element (List M))) → SameElements (same_annotations same) es fs → es ≡ fs
  elements_told = told_elements (same_annotations same) annotations_tell
