-- What the fields of a renderer hold after they change.
use Rattle.tbr_renderer.proofs.Common.{◌≡◌, ℕ, Option, None, Some, List, [], ◌∷◌, ◌++◌, map, refl, ap, ◌∙◌, arith, Vec, Block, map-append, Element, piece, marker_element, element_of}
use Rattle.tbr_renderer.proofs.Common.{TaggedLineElement, Renderer, block_width, may_overflow, block_seen, names_of, AreMarkers, IsFresh}
use Rattle.tbr_renderer.specs.declared.sub.SubRenderer.TheInside.{Inside}
use Rattle.tbr_renderer.specs.View.{renderer_of, HoldsRenderer}

-- ---- markers

pub names_append : {T : Type 0} (es fs : List (Element T)) → names_of (es ++ fs) ≡ names_of es ++ names_of fs
names_append [] fs = refl
names_append (piece cs a ∷ es) fs = names_append es fs
names_append (marker_element name ∷ es) fs = ap (λ ns. name ∷ ns) (names_append es fs)

pub markers_append : {T : Type 0} (es fs : List (Element T)) → AreMarkers es → AreMarkers fs → AreMarkers (es ++ fs)
markers_append {T} es fs h k = grind (arith, names_append, map-append)

module _ {D W A M : Type 0} (columns : ℕ → Option ℕ) (r : Inside D W A M) (more : List (TaggedLineElement (List M)))
    (waiting : Vec (TaggedLineElement (List M))) (is : waiting.items ≡ r.waiting.items ++ more) where
  elements : map element_of waiting.items ≡ map element_of r.waiting.items ++ map element_of more
  elements = ap (map element_of) is ∙ map-append element_of r.waiting.items more

  -- more markers wait
  pub holds_waiting : HoldsRenderer columns r → AreMarkers (map element_of more) → HoldsRenderer columns (record r { waiting = waiting })
  holds_waiting h markers = grind (arith, elements, markers_append)

  pub waiting_seen : (s : Renderer D M (List M)) → renderer_of r ≡ s → renderer_of (record r { waiting = waiting }) ≡ record s { waiting = s.waiting ++ names_of (map element_of more) }
  waiting_seen s view = grind (arith, elements, names_append)

-- ---- the open block

-- the open block as it is seen, and that it is fresh
pub block_opens : {D W A M : Type 0} (columns : ℕ → Option ℕ) (inside : Inside D W A M) (r : Renderer D M (List M)) (block : Block (List M)) →
    HoldsRenderer columns inside → renderer_of inside ≡ r → r.failure ≡ None → inside.wrapping ≡ Some block →
    (block_seen (Some block) ≡ r.block) × IsFresh columns (block_width r) (may_overflow r) block
block_opens {D} {W} {A} {M} columns inside r block holds view live is = grind arith
