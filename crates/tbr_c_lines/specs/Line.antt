-- A line as C sees it.
use Rattle.std.specs.Prelude.{◌≡◌, ℕ, ◌+◌, Bool, true, false, Option, None, Some, Result, Ok, Err, List, [], ◌∷◌, length, map, string_bytes, encode_utf8_all}
use Rattle.std.specs.Global.{Vec}
use Rattle.tbr_border.specs.declared.RenderLine.{RenderLine}
use Rattle.tbr_border.specs.declared.RenderLine.TheVariants.{Text, Line as Rule}
use Rattle.tbr_tags.specs.Lists.{equal_lists}
use Rattle.tbr_tagged.specs.Elements.{Element, piece, marker_element, element_characters, characters, items_of, line_width, SameItems}
use Rattle.tbr_border.specs.RenderLine.{line_items, IsItself}
use Rattle.tbr_tagged.specs.UnicodeColumns.{unicode_columns}
use Rattle.tbr_decor.specs.declared.annotation.RichAnnotation.{RichAnnotation}
use Rattle.tbr_decor.specs.declared.annotation.RichAnnotation.TheVariants as rich
use Rattle.tbr_decor.specs.declared.colour.Colour.{Colour}
use Rattle.tbr_c_lines.specs.declared.fault.Fault.{Fault}
use Rattle.tbr_c_lines.specs.declared.fault.Fault.TheVariants.{NoPiece}
use Rattle.tbr_c_lines.specs.declared.line.What.{What as Held}
use Rattle.tbr_c_lines.specs.declared.line.What.TheVariants as held
use Rattle.tbr_c_lines.specs.declared.line.LineSize.{LineSize}
use Rattle.tbr_c_lines.specs.declared.line.PiecePlace.{PiecePlace}
use Rattle.tbr_c_lines.specs.declared.line.AnnotationKind.{AnnotationKind}

-- What a piece is: text by its bytes under annotations, the outermost first, or a marker by its name.
pub data What : Type 0 where
  under : (text : List ℕ) → List RichAnnotation → What
  named : List ℕ → What

-- A piece, by where its bytes begin and end in the line's.
pub record Piece : Type 0 where
  pub begin : ℕ
  pub end : ℕ
  pub what : What

-- A line, by the bytes of its text.
pub record Line : Type 0 where
  pub text : List ℕ
  pub columns : ℕ
  pub is_border : Bool
  pub pieces : List Piece

-- what the code holds of a piece
abbrev pub what_of : Held → What
what_of (held.Text text annotations) = under (string_bytes text) annotations.items
what_of (held.Marker name) = named (string_bytes name)

-- ---- from the lines of a renderer

module _ {A : Type 0} (shown : A → RichAnnotation) where
  -- an element whose bytes begin at a place
  abbrev pub piece_at : ℕ → Element (Vec A) → Piece
  piece_at at (piece cs tag) = record {
    begin = at;
    end = at + length (encode_utf8_all cs);
    what = under (encode_utf8_all cs) (map shown tag.items);
  }
  piece_at at (marker_element name) = record { begin = at; end = at; what = named name }

  -- elements end to end
  abbrev pub pieces_at : ℕ → List (Element (Vec A)) → List Piece
  pieces_at at [] = []
  pieces_at at (e ∷ es) = piece_at at e ∷ pieces_at (at + length (encode_utf8_all (element_characters e))) es

  -- the line of elements
  abbrev pub line_of : Bool → List (Element (Vec A)) → Line
  line_of is_border es = record {
    text = encode_utf8_all (characters es);
    columns = line_width unicode_columns es;
    is_border = is_border;
    pieces = pieces_at 0 es;
  }

-- whether a line is a border
abbrev pub is_border : {A : Type 0} → RenderLine A → Bool
is_border (Text line) = false
is_border (Rule border) = true

-- What C sees of a line: its elements, or a border as pieces with its cells under its own annotations.
abbrev pub IsSeenAs : {A : Type 0} → (A → A → Bool) → (A → RichAnnotation) → RenderLine (Vec A) → Line → Type 0
IsSeenAs {A} eq shown line seen =
    (es : List (Element (Vec A))) × IsItself line es × SameItems (equal_lists eq) (items_of es) (line_items line)
    × (seen ≡ line_of shown (is_border line) es)

-- ---- what C asks of a line

abbrev pub size_of : Line → LineSize
size_of line = record {
  bytes = length line.text;
  columns = line.columns;
  pieces = length line.pieces;
  is_border = line.is_border;
}

-- how many annotations a piece is under, the bytes of its name, and its kind
abbrev pub annotations_of : What → List RichAnnotation
annotations_of (under text annotations) = annotations
annotations_of (named name) = []

abbrev pub name_of : What → Option (List ℕ)
name_of (under text annotations) = None
name_of (named name) = Some name

abbrev pub place_of : Piece → PiecePlace
place_of p = go p.what
  where
    go : What → PiecePlace
    go (under text annotations) = record {
      begin = p.begin;
      end = p.end;
      annotations = length annotations;
      name_bytes = 0;
      kind = 0;
    }
    go (named name) = record { begin = p.begin; end = p.end; annotations = 0; name_bytes = length name; kind = 1 }

-- the place of a piece
abbrev pub placed : Option Piece → Result PiecePlace Fault
placed None = Err NoPiece
placed (Some p) = Ok (place_of p)

-- the name of the marker at a place, if one is there
abbrev pub marked : Option Piece → Option (List ℕ)
marked None = None
marked (Some p) = name_of p.what

-- the annotations of the piece at a place; none where no piece is
abbrev pub annotated : Option Piece → List RichAnnotation
annotated None = []
annotated (Some p) = annotations_of p.what

-- the target of a link or the source of an image, if it is one
abbrev pub target_of : RichAnnotation → Option (List ℕ)
target_of (rich.Link target) = Some (string_bytes target)
target_of (rich.Image source) = Some (string_bytes source)
target_of other = None

-- an annotation that is its kind alone, one with a target, and one with a colour
abbrev pub plain : ℕ → AnnotationKind
plain kind = record { target_bytes = 0; kind = kind; red = 0; green = 0; blue = 0 }

abbrev pub coloured : ℕ → Colour → AnnotationKind
coloured kind c = record { target_bytes = 0; kind = kind; red = c.r; green = c.g; blue = c.b }

abbrev pub kind_of : RichAnnotation → AnnotationKind
kind_of rich.Default = plain 0
kind_of (rich.Link target) = record (plain 1) { target_bytes = length (string_bytes target) }
kind_of (rich.Image source) = record (plain 2) { target_bytes = length (string_bytes source) }
kind_of rich.Emphasis = plain 3
kind_of rich.Strong = plain 4
kind_of rich.Strikeout = plain 5
kind_of rich.Code = plain 6
kind_of (rich.Preformat false) = plain 7
kind_of (rich.Preformat true) = plain 8
kind_of (rich.Colour c) = coloured 9 c
kind_of (rich.BgColour c) = coloured 10 c
