-- What a walk over items has still to give.
use Rattle.std.specs.Prelude.{ℕ, zero, suc, ◌+◌, List, [], ◌∷◌, ◌++◌, map, drop, Option, Some, None, unwrap_or}
use Rattle.tbr_model.specs.Run.{Item, glyph, marker}
use Rattle.tbr_flat.specs.declared.markers.Marker.{Marker}

-- an item's character; a marker has none
abbrev pub character_in : {A : Type 0} → Item A → Option ℕ
character_in (glyph c a) = Some c
character_in (marker name) = None

-- the first one that is given, or `None` where there is none
abbrev pub first_given : List (Option ℕ) → Option ℕ
first_given [] = None
first_given (o ∷ os) = o

-- The columns of what is given. A character without a width counts 0, and so does a marker.
abbrev pub given_width : (ℕ → Option ℕ) → List (Option ℕ) → ℕ
given_width columns [] = 0
given_width columns (None ∷ os) = given_width columns os
given_width columns (Some c ∷ os) = unwrap_or (columns c) 0 + given_width columns os

-- the first `n` characters, with `None` for each one that is wanting
abbrev pub first_characters : ℕ → List ℕ → List (Option ℕ)
first_characters zero cs = []
first_characters (suc n) [] = None ∷ first_characters n []
first_characters (suc n) (c ∷ cs) = Some c ∷ first_characters n cs

-- Characters with the markers among them, each as `None`. So many characters come before each marker, after the one
-- before it.
abbrev pub given : List ℕ → List ℕ → List (Option ℕ)
given cs [] = map Some cs
given cs (n ∷ ns) = first_characters n cs ++ None ∷ given (drop n cs) ns

-- how many characters come before each of these markers
abbrev pub places_of : List Marker → List ℕ
places_of ms = map (λ m. m.before) ms

-- the same of the markers that are left to a walk: one that it has come to, and those after it
abbrev pub places_left : Option ℕ → List Marker → List ℕ
places_left None ms = []
places_left (Some n) ms = n ∷ places_of ms
