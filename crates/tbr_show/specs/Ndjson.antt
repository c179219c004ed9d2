-- Lines as they are written in JSON.
use Rattle.std.specs.Prelude.{ℕ, ◌/◌, ◌%◌, Bool, if◌then◌else◌, Option, List, [], ◌∷◌, ◌++◌, flat_map, codes, chars, string_bytes, encode_utf8_all, Vec}
use Rattle.std.specs.declared.alloc.Global.{Global}
use Rattle.std.specs.Char.{digit_char}
use Rattle.std.specs.Fmt.{decimal}
use Rattle.std.specs.Int.{is_in_range}
use Rattle.json.specs.Token.{Token, begin_object, end_object, begin_array, end_array, key, string, number, boolean}
use Rattle.json.specs.Print.{print}
use Rattle.tbr_model.specs.Codes.{newline_character}
use Rattle.tbr_tagged.specs.Elements.{Element, piece, marker_element, element_width, line_width}
use Rattle.tbr_decor.specs.declared.colour.Colour.{Colour}
use Rattle.tbr_decor.specs.declared.annotation.RichAnnotation.{RichAnnotation}
use Rattle.tbr_decor.specs.declared.annotation.RichAnnotation.TheVariants as rich

-- ---- annotations

abbrev pub kind : RichAnnotation → List ℕ
kind rich.Default = codes "default"
kind (rich.Link target) = codes "link"
kind (rich.Image source) = codes "image"
kind rich.Emphasis = codes "emphasis"
kind rich.Strong = codes "strong"
kind rich.Strikeout = codes "strikeout"
kind rich.Code = codes "code"
kind (rich.Preformat continued) = codes "preformatted"
kind (rich.Colour colour) = codes "colour"
kind (rich.BgColour colour) = codes "background"

-- a text under a name
abbrev pub text_tokens : List ℕ → List ℕ → List Token
text_tokens name text = key name ∷ string text ∷ []

abbrev pub colour_tokens : Colour → List Token
colour_tokens c =
    key (codes "rgb") ∷ begin_array ∷ number (decimal c.r) ∷ number (decimal c.g) ∷ number (decimal c.b) ∷ end_array ∷ []

-- what an annotation has besides its kind
abbrev pub details : RichAnnotation → List Token
details rich.Default = []
details (rich.Link target) = text_tokens (codes "target") (string_bytes target)
details (rich.Image source) = text_tokens (codes "source") (string_bytes source)
details rich.Emphasis = []
details rich.Strong = []
details rich.Strikeout = []
details rich.Code = []
details (rich.Preformat continued) = key (codes "continued") ∷ boolean continued ∷ []
details (rich.Colour colour) = colour_tokens colour
details (rich.BgColour colour) = colour_tokens colour

abbrev pub annotation_tokens : RichAnnotation → List Token
annotation_tokens a = begin_object ∷ text_tokens (codes "kind") (kind a) ++ details a ++ end_object ∷ []

-- ---- lines

abbrev pub columns_tokens : ℕ → List Token
columns_tokens n = key (codes "columns") ∷ number (decimal n) ∷ []

abbrev pub marker_tokens : List ℕ → List Token
marker_tokens name = begin_object ∷ key (codes "marker") ∷ string name ∷ end_object ∷ []

-- what is before the pieces of a line of so many columns, and what is after them
abbrev pub begin_tokens : (is_border : Bool) → ℕ → List Token
begin_tokens is_border n =
    begin_object ∷ key (codes "border") ∷ boolean is_border ∷ columns_tokens n
    ++ (key (codes "pieces") ∷ begin_array ∷ [])

abbrev pub end_tokens : List Token
end_tokens = end_array ∷ end_object ∷ []

-- a piece, by the bytes of its text and its columns
abbrev pub piece_tokens : List ℕ → ℕ → List RichAnnotation → List Token
piece_tokens text n annotations =
    begin_object ∷ text_tokens (codes "text") text ++ columns_tokens n
    ++ (key (codes "annotations") ∷ begin_array ∷ flat_map annotation_tokens annotations)
    ++ end_array ∷ end_object ∷ []

module _ (columns : ℕ → Option ℕ) where
  abbrev pub element_tokens : Element (Vec RichAnnotation Global) → List Token
  element_tokens (piece cs tag) =
      piece_tokens (encode_utf8_all cs) (element_width columns (piece cs tag)) tag.items
  element_tokens (marker_element name) = marker_tokens name

  -- a line, and whether it is a border
  abbrev pub line_tokens : Bool → List (Element (Vec RichAnnotation Global)) → List Token
  line_tokens is_border es = begin_tokens is_border (line_width columns es) ++ flat_map element_tokens es ++ end_tokens

-- ---- characters

-- a character of JSON: U+007F to U+009F as an escape
abbrev pub escaped : ℕ → List ℕ
escaped c =
    if is_in_range 0x7F 0x9F c then codes "\\u00" ++ digit_char (c / 16) ∷ digit_char (c % 16) ∷ [] else c ∷ []

-- what is written of tokens
abbrev pub written : List Token → List ℕ
written tokens = flat_map escaped (chars (print tokens))

-- a line with its newline
abbrev pub line : (ℕ → Option ℕ) → Bool → List (Element (Vec RichAnnotation Global)) → List ℕ
line columns is_border es = written (line_tokens columns is_border es) ++ newline_character ∷ []
