-- Lines as they are written for a terminal.
use Rattle.std.specs.Prelude.{ℕ, if◌then◌else◌, List, [], ◌∷◌, ◌++◌, flat_map, codes, string_bytes, Vec}
use Rattle.std.specs.declared.alloc.Global.{Global}
use Rattle.tbr_model.specs.Codes.{newline_character}
use Rattle.tbr_tagged.specs.Elements.{Element, piece, marker_element, characters}
use Rattle.tbr_decor.specs.declared.annotation.RichAnnotation.{RichAnnotation}
use Rattle.tbr_decor.specs.declared.annotation.RichAnnotation.TheVariants as rich
use Rattle.tbr_show.specs.Written.{printable, colour_parts}
use Rattle.tbr_show.specs.Target.{encoded, is_followed}

abbrev pub escape_character : ℕ
escape_character = 0x1B

-- a control sequence that selects how characters are shown
abbrev pub selects : List ℕ → List ℕ
selects parameters = escape_character ∷ codes "[" ++ parameters ++ codes "m"

-- a command that begins a link to a target, or ends one if that is empty
abbrev pub links : List ℕ → List ℕ
links target = escape_character ∷ codes "]8;;" ++ target ++ escape_character ∷ codes "\\"

-- What begins a link: it is underlined, and leads to its target if that is followed. Another one leads nowhere, also
-- inside a link that does.
abbrev pub link : List ℕ → List ℕ
link target = selects (codes "4") ++ links (if is_followed target then encoded target else [])

-- what begins an annotation
abbrev pub begins : RichAnnotation → List ℕ
begins rich.Default = []
begins (rich.Link target) = link (string_bytes target)
begins (rich.Image source) = selects (codes "2")
begins rich.Emphasis = selects (codes "3")
begins rich.Strong = selects (codes "1")
begins rich.Strikeout = selects (codes "9")
begins rich.Code = selects (codes "36")
begins (rich.Preformat continued) = []
begins (rich.Colour colour) = selects (codes "38;2;" ++ colour_parts (codes ";") colour)
begins (rich.BgColour colour) = selects (codes "48;2;" ++ colour_parts (codes ";") colour)

-- what ends it
abbrev pub ends : RichAnnotation → List ℕ
ends rich.Default = []
ends (rich.Link target) = links [] ++ selects (codes "24")
ends (rich.Image source) = selects (codes "22")
ends rich.Emphasis = selects (codes "23")
ends rich.Strong = selects (codes "22")
ends rich.Strikeout = selects (codes "29")
ends rich.Code = selects (codes "39")
ends (rich.Preformat continued) = []
ends (rich.Colour colour) = selects (codes "39")
ends (rich.BgColour colour) = selects (codes "49")

-- A piece is between what begins its annotations and what ends them, without its control characters.
abbrev pub piece_shown : List ℕ → List RichAnnotation → List ℕ
piece_shown cs annotations = flat_map begins annotations ++ printable cs ++ flat_map ends annotations

-- a marker isn't shown
abbrev pub element : Element (Vec RichAnnotation Global) → List ℕ
element (piece cs tag) = piece_shown cs tag.items
element (marker_element name) = []

-- a line with its newline
abbrev pub line : List (Element (Vec RichAnnotation Global)) → List ℕ
line es = flat_map element es ++ newline_character ∷ []

-- the characters of a line that are no control characters, with a newline
abbrev pub bare_line : {A : Type 0} → List (Element A) → List ℕ
bare_line es = printable (characters es) ++ newline_character ∷ []
