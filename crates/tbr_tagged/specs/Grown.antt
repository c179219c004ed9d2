-- Lines that grew at their end, and where a line ends.
use Rattle.std.specs.Prelude.{◌≡◌, ℕ, Option, None, Some, List, ◌++◌, length}
use Rattle.std.specs.Str.{encode_utf8_all}
use Rattle.tbr_tagged.specs.Elements.{Element, element_characters, extend_last}

-- the first line with more text after its last piece, and more elements after that
abbrev pub HasGrown : {A : Type 0} → List (Element A) → List (Element A) → Type 0
HasGrown {A} es fs = (cs : List ℕ) × (gs : List (Element A)) × (fs ≡ extend_last es cs ++ gs)

-- the bytes that an element's text takes
abbrev pub text_bytes : {A : Type 0} → Element A → ℕ
text_bytes e = length (encode_utf8_all (element_characters e))

-- the bytes that the last element's text takes
abbrev pub last_bytes : {A : Type 0} → Option (Element A) → ℕ
last_bytes None = 0
last_bytes (Some e) = text_bytes e
