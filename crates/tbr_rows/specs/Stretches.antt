-- Items as elements: pieces that are the longest stretches under one tag.
use Rattle.std.specs.Prelude.{ℕ, Bool, if◌then◌else◌, List, [], ◌∷◌}
use Rattle.tbr_model.specs.Run.{Item, glyph, marker}
use Rattle.tbr_tagged.specs.Elements.{Element, piece, marker_element}

-- a character before these elements, in the first one if that is a piece under the same tag
abbrev pub character_before : {A : Type 0} → (A → A → Bool) → ℕ → A → List (Element A) → List (Element A)
character_before same c a [] = piece (c ∷ []) a ∷ []
character_before same c a (marker_element name ∷ es) = piece (c ∷ []) a ∷ marker_element name ∷ es
character_before same c a (piece cs b ∷ es) =
    if same a b then piece (c ∷ cs) b ∷ es else piece (c ∷ []) a ∷ piece cs b ∷ es

-- items as elements, whose pieces are the longest stretches of characters under one tag
abbrev pub longest : {A : Type 0} → (A → A → Bool) → List (Item A) → List (Element A)
longest same [] = []
longest same (glyph c a ∷ is) = character_before same c a (longest same is)
longest same (marker name ∷ is) = marker_element name ∷ longest same is
