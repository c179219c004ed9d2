-- What the fields of a tagged line mean.
use Rattle.std.specs.Prelude.{ℕ, List, String, chars, map, string_bytes}
use Rattle.tbr_tagged.specs.declared.element.TaggedLineElement.{TaggedLineElement}
use Rattle.tbr_tagged.specs.declared.element.TaggedLineElement.TheVariants.{Str, FragmentStart}
use Rattle.tbr_tagged.specs.Elements.{Element, piece, marker_element}

-- a text's characters
abbrev pub chars_of : {Z : Type 0} → String Z → List ℕ
chars_of s = chars (string_bytes s)

abbrev pub element_of : {A : Type 0} → TaggedLineElement A → Element A
element_of (Str ts) = piece (chars_of ts.s) ts.tag
element_of (FragmentStart name) = marker_element (string_bytes name)

-- what is stored of a line, as its elements
abbrev pub elements_of : {A : Type 0} → List (TaggedLineElement A) → List (Element A)
elements_of stored = map element_of stored
