-- Lines as they are written in HTML.
use Rattle.std.specs.Prelude.{ℕ, ◌==◌, Bool, true, false, if◌then◌else◌, Option, Some, None, List, [], ◌∷◌, ◌++◌, flat_map, reverse, codes, chars, string_bytes, Vec}
use Rattle.std.specs.declared.alloc.Global.{Global}
use Rattle.tbr_model.specs.Codes.{newline_character}
use Rattle.tbr_tagged.specs.Elements.{Element, piece, marker_element}
use Rattle.tbr_decor.specs.declared.colour.Colour.{Colour}
use Rattle.tbr_decor.specs.declared.annotation.RichAnnotation.{RichAnnotation}
use Rattle.tbr_decor.specs.declared.annotation.RichAnnotation.TheVariants as rich
use Rattle.tbr_show.specs.Written.{printable, colour_parts}
use Rattle.tbr_show.specs.Target.{encoded, is_followed}

-- a character, as HTML writes it
abbrev pub escaped : ℕ → List ℕ
escaped c =
    if c == 38 then codes "&amp;"
    else if c == 60 then codes "&lt;"
    else if c == 62 then codes "&gt;"
    else if c == 34 then codes "&quot;"
    else if c == 39 then codes "&#39;"
    else c ∷ []

-- ---- elements of annotations

-- a target or a source as the value of an attribute
abbrev pub address : List ℕ → List ℕ
address target = flat_map escaped (printable (encoded target))

abbrev pub link : List ℕ → List ℕ
link target =
    if is_followed target then codes "<a href=\"" ++ address target ++ codes "\">" else codes "<a>"

abbrev pub coloured : List ℕ → Colour → List ℕ
coloured property colour =
    codes "<span style=\"" ++ property ++ codes ":rgb(" ++ colour_parts (codes ",") colour ++ codes ")\">"

-- what begins an annotation
abbrev pub begins : RichAnnotation → List ℕ
begins rich.Default = []
begins (rich.Link target) = link (string_bytes target)
begins (rich.Image source) = codes "<span title=\"" ++ address (string_bytes source) ++ codes "\">"
begins rich.Emphasis = codes "<em>"
begins rich.Strong = codes "<strong>"
begins rich.Strikeout = codes "<s>"
begins rich.Code = codes "<code>"
begins (rich.Preformat continued) = []
begins (rich.Colour colour) = coloured (codes "color") colour
begins (rich.BgColour colour) = coloured (codes "background-color") colour

-- what ends it
abbrev pub ends : RichAnnotation → List ℕ
ends rich.Default = []
ends (rich.Link target) = codes "</a>"
ends (rich.Image source) = codes "</span>"
ends rich.Emphasis = codes "</em>"
ends rich.Strong = codes "</strong>"
ends rich.Strikeout = codes "</s>"
ends rich.Code = codes "</code>"
ends (rich.Preformat continued) = []
ends (rich.Colour colour) = codes "</span>"
ends (rich.BgColour colour) = codes "</span>"

-- a marker is a place of its name
abbrev pub marker_shown : List ℕ → List ℕ
marker_shown name = codes "<a id=\"" ++ flat_map escaped (printable (chars name)) ++ codes "\"></a>"

-- ---- characters in their columns

-- What is before a character of so many columns. An element for one of two columns may be open: it is closed before one
-- of one or two. Another one begins before one of two.
abbrev pub between : Bool → Option ℕ → List ℕ
between false None = []
between true None = []
between false (Some n) = if n == 2 then codes "<span class=\"wide\">" else []
between true (Some n) =
    if n == 2 then codes "</span><span class=\"wide\">" else if n == 1 then codes "</span>" else []

-- whether that element is open after it
abbrev pub is_wide_after : Bool → Option ℕ → Bool
is_wide_after is_wide None = is_wide
is_wide_after is_wide (Some n) = if n == 2 then true else if n == 1 then false else is_wide

module _ (columns : ℕ → Option ℕ) where
  -- characters, from where such an element is open or isn't; it is closed after the last
  abbrev pub shown_from : Bool → List ℕ → List ℕ
  shown_from is_wide [] = between is_wide (Some 1)
  shown_from is_wide (c ∷ cs) =
      between is_wide (columns c) ++ (escaped c ++ shown_from (is_wide_after is_wide (columns c)) cs)

  abbrev pub shown : List ℕ → List ℕ
  shown = shown_from false

  -- a piece is in the elements of its annotations
  abbrev pub piece_shown : List ℕ → List RichAnnotation → List ℕ
  piece_shown cs annotations =
      flat_map begins annotations ++ shown (printable cs) ++ flat_map ends (reverse annotations)

  abbrev pub element : Element (Vec RichAnnotation Global) → List ℕ
  element (piece cs tag) = piece_shown cs tag.items
  element (marker_element name) = marker_shown name

  -- a line with its newline
  abbrev pub line : List (Element (Vec RichAnnotation Global)) → List ℕ
  line es = flat_map element es ++ newline_character ∷ []
