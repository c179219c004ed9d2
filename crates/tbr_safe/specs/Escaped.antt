-- Texts without control characters.
use Rattle.std.specs.Prelude.{ℕ, if◌then◌else◌, List, [], ◌∷◌, flat_map, chars, encode_utf8, encode_utf8_all}
use Rattle.std.specs.Char.{is_control}
use Rattle.percent_encoding.specs.Percent.{percent_encode}
use Rattle.percent_encoding.specs.declared.ascii_set.TheConstants.{CONTROLS}

-- a control character as the bytes of its UTF-8, each as % and two hexadecimal digits; any other one as it is
abbrev pub escaped_character : ℕ → List ℕ
escaped_character c = if is_control c then percent_encode CONTROLS (encode_utf8 c) else c ∷ []

-- the characters of a text, control characters so
abbrev pub escaped : List ℕ → List ℕ
escaped cs = flat_map escaped_character cs

-- the same of a text by its bytes
abbrev pub escaped_bytes : List ℕ → List ℕ
escaped_bytes bytes = encode_utf8_all (escaped (chars bytes))
