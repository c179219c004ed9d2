-- A line whose first text is put back.
use Rattle.std.specs.Prelude.{ℕ, Option, Some, None, List, [], ◌∷◌}
use Rattle.tbr_tagged.specs.Elements.{Element, piece, marker_element}

-- a piece with this text
abbrev pub with_characters : {A : Type 0} → Element A → List ℕ → Element A
with_characters (piece ds a) cs = piece cs a
with_characters (marker_element name) cs = marker_element name

-- the first piece gets its text back, or, where it had none, goes
abbrev pub restored : {A : Type 0} → List (Element A) → Option (List ℕ) → List (Element A)
restored [] text = []
restored (e ∷ es) (Some cs) = with_characters e cs ∷ es
restored (e ∷ es) None = es
