-- Lines with vectors of annotations in the place of lists.
use Rattle.std.specs.Prelude.{◌≡◌, Bool, List, map, vec_items}
use Rattle.std.specs.Global.{Vec}
use Rattle.tbr_model.specs.Mapped.{map_items}
use Rattle.tbr_tagged.specs.Elements.{Element, items_of}
use Rattle.tbr_border.specs.declared.RenderLine.{RenderLine}
use Rattle.tbr_border.specs.declared.RenderLine.TheVariants.{Text, Line}
use Rattle.tbr_tags.specs.Lists.{equal_lists}
use Rattle.tbr_border.specs.Border.{MapsBorder}
use Rattle.tbr_border.specs.RenderLine.{IsMergedText}

-- what a vector of annotations means
abbrev pub vector_meant : {A M : Type 0} → (A → M) → Vec A → List M
vector_meant meaning v = map meaning (vec_items v)

-- a vector that means the list
abbrev pub Holds : {A M : Type 0} → (A → M) → List M → Vec A → Type 0
Holds meaning annotations v = vector_meant meaning v ≡ annotations

-- the same items, with vectors in the place of lists
abbrev pub WritesItems : {A M : Type 0} → (A → M) → List (Element (List M)) → List (Element (Vec A)) → Type 0
WritesItems meaning es fs = map_items (vector_meant meaning) (items_of fs) ≡ items_of es

-- the same line, with vectors in the place of lists
abbrev pub WritesOut : {A M : Type 0} → (A → M) → RenderLine (List M) → RenderLine (Vec A) → Type 0
WritesOut meaning (Text es) (Text fs) = WritesItems meaning es fs
WritesOut meaning (Line b) (Line c) = MapsBorder (Holds meaning) b c
WritesOut meaning (Text es) (Line c) = ⊥
WritesOut meaning (Line b) (Text fs) = ⊥

-- the same line under vectors, its pieces the longest stretches under equal ones
abbrev pub IsWrittenOut : {A M : Type 0} → (A → M) → (A → A → Bool) → RenderLine (List M) → RenderLine (Vec A) → Type 0
IsWrittenOut meaning eq line out = WritesOut meaning line out × IsMergedText (equal_lists eq) out
