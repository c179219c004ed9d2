-- What a chain holds.
use Rattle.std.specs.Prelude.{◌≡◌, ◌+◌, ⊤, Bool, true, false, ◌&&◌, List, [], ◌∷◌, ◌++◌, length}
use Rattle.tbr_annotations.specs.declared.chain.Chain.{Chain, End, Last'}

-- its annotations, the last one last
abbrev pub annotations_of : {A : Type 0} → Chain A → List A
annotations_of End = []
annotations_of (Last' p annotation len below) = annotations_of below ++ annotation ∷ []

-- each node knows how many annotations there are
abbrev pub CountsWell : {A : Type 0} → Chain A → Type 0
CountsWell End = ⊤
CountsWell (Last' p annotation len below) = (len ≡ length (annotations_of below) + 1) × CountsWell below

-- equal annotations, from the last ones on
abbrev pub equal_down : {A : Type 0} → (A → A → Bool) → Chain A → Chain A → Bool
equal_down eq End End = true
equal_down eq End (Last' q b n ys) = false
equal_down eq (Last' p a m xs) End = false
equal_down eq (Last' p a m xs) (Last' q b n ys) = eq a b && equal_down eq xs ys
