-- Elements whose tags are mapped, and what tags mean.
use Rattle.std.specs.Prelude.{◌≡◌, Bool, true, List}
use Rattle.std.specs.List.{AllZip}
use Rattle.tbr_tagged.specs.Elements.{Element, piece, marker_element}

-- The text stays and the tag becomes an answer on it, or the marker stays.
abbrev pub MapsElement : {A B : Type 0} → (A → B → Type 0) → Element A → Element B → Type 0
MapsElement gives (piece cs a) (piece ds b) = (ds ≡ cs) × gives a b
MapsElement gives (marker_element m) (marker_element n) = n ≡ m
MapsElement gives (piece cs a) (marker_element n) = ⊥
MapsElement gives (marker_element m) (piece ds b) = ⊥

-- each element of a line is mapped, in order
abbrev pub MapsElements : {A B : Type 0} → (A → B → Type 0) → List (Element A) → List (Element B) → Type 0
MapsElements gives = AllZip (MapsElement gives)

-- the element with its tag as what a function makes of it
abbrev pub map_element : {A B : Type 0} → (A → B) → Element A → Element B
map_element f (piece cs a) = piece cs (f a)
map_element f (marker_element name) = marker_element name

-- Equal tags mean the same.
abbrev pub MeansEqual : {A B : Type 0} → (A → B) → (A → A → Bool) → Type 0
MeansEqual {A} f eq = (x y : A) → eq x y ≡ true → f x ≡ f y
