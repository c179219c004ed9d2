-- Lines as `blockview` shows them, by what C sees of them.
use Rattle.std.specs.Prelude.{◌≡◌, ℕ, ◌⊎◌, Bool, true, false, Result, Ok, Err, MatchResult, List, [], ◌∷◌, ◌++◌, chars, flat_map, slice_get, encode_utf8_all}
use Rattle.std.specs.Global.{Vec}
use Rattle.std.specs.Option.{ok_or}
use Rattle.json.specs.Token.{Token}
use Rattle.tbr_model.specs.Codes.{newline_character}
use Rattle.tbr_tagged.specs.UnicodeColumns.{unicode_columns}
use Rattle.tbr_border.specs.declared.RenderLine.{RenderLine}
use Rattle.tbr_border.specs.RenderLine.{SameLine}
use Rattle.tbr_decor.specs.declared.annotation.RichAnnotation.{RichAnnotation}
use Rattle.tbr_decor.specs.contracts.annotation.RichAnnotationPartialEq.TheImpl as rich
use Rattle.tbr_annotations.specs.Annotations.{same_annotations}
use Rattle.tbr_annotations.specs.Written.{IsWrittenOut}
use Rattle.tbr_decor.specs.Style.{style_of, same_style}
use Rattle.tbr_show.specs.Ansi as ansi
use Rattle.tbr_show.specs.Html as html
use Rattle.tbr_show.specs.Ndjson as json
use Rattle.tbr_c_lines.specs.Columns.{columns_of}
use Rattle.tbr_c_lines.specs.Copied.{IsCopied, Copies}
use Rattle.tbr_c_lines.specs.Line.{What, Line, under, named, IsSeenAs}
use Rattle.tbr_c_lines.specs.Lines.{Lines, bare, equal_bare, itself}
use Rattle.tbr_c_lines.specs.declared.fault.Fault.{Fault}
use Rattle.tbr_c_lines.specs.declared.fault.Fault.TheVariants as fault
use Rattle.tbr_c_lines.specs.declared.formats.Format.{Format}
use Rattle.tbr_c_lines.specs.declared.formats.Format.TheVariants.{Ansi, Html, Json}
use Rattle.tbr_c_lines.specs.declared.lines.Rest.{Rest}
use Rattle.tbr_c_lines.specs.declared.lines.Rest.TheVariants.{Bare, Rich, Text}

-- a format by its number in `text_block_renderer.h`, of which 0 is text
abbrev pub format_named : ℕ → Result Format Fault
format_named number = ok_or (slice_get (Ansi ∷ Html ∷ Json ∷ []) number) fault.BadArgument

-- ---- a line

-- what is shown of annotations: nothing under decorators that have none
abbrev pub told : (is_bare : Bool) → List RichAnnotation → List RichAnnotation
told true annotations = []
told false annotations = annotations

module _ (is_bare : Bool) where
  abbrev pub ansi_of : What → List ℕ
  ansi_of (under text annotations) = ansi.piece_shown (chars text) (told is_bare annotations)
  ansi_of (named name) = []

  abbrev pub html_of : What → List ℕ
  html_of (under text annotations) = html.piece_shown unicode_columns (chars text) (told is_bare annotations)
  html_of (named name) = html.marker_shown name

  abbrev pub tokens_of : What → List Token
  tokens_of (under text annotations) = json.piece_tokens text (columns_of text) (told is_bare annotations)
  tokens_of (named name) = json.marker_tokens name

  -- a line in a format, without a newline
  abbrev pub line_as : Format → Line → List ℕ
  line_as Ansi line = flat_map (λ p. ansi_of p.what) line.pieces
  line_as Html line = flat_map (λ p. html_of p.what) line.pieces
  line_as Json line = json.written
      (json.begin_tokens line.is_border line.columns ++ flat_map (λ p. tokens_of p.what) line.pieces ++ json.end_tokens)

-- ---- lines

-- A line of a renderer in a format, with a newline: as C sees a copy of it that is written out.
abbrev pub ShowsLine : {A M : Type 0} → (A → M) → (M → M → Bool) → (A → A → Bool) → (A → RichAnnotation) → Bool →
    Format → RenderLine (List M) → List ℕ → Type 0
ShowsLine {A} {M} meaning same eq shown is_bare format line cs =
    (copy : RenderLine (List M)) × (out : RenderLine (Vec A)) × (seen : Line)
    × SameLine (same_annotations same) copy line × IsWrittenOut meaning eq copy out × IsSeenAs eq shown out seen
    × (cs ≡ line_as is_bare format seen ++ newline_character ∷ [])

-- and lines one after another
abbrev pub AreShown : {L : Type 0} → (L → List ℕ → Type 0) → List L → List ℕ → Type 0
AreShown Shows [] cs = cs ≡ []
AreShown Shows (line ∷ lines) cs =
    (first : List ℕ) × (rest : List ℕ) × Shows line first × AreShown Shows lines rest × (cs ≡ first ++ rest)

-- those that weren't taken
abbrev pub ShowsRest : Format → Rest → List ℕ → Type 0
ShowsRest format (Bare lines) cs = AreShown (ShowsLine (λ a. a) equal_bare equal_bare bare true format) lines.items cs
ShowsRest format (Rich lines) cs =
    AreShown (ShowsLine style_of same_style rich.ghosts.eq itself false format) lines.items cs
ShowsRest format (Text text) cs = ⊥

-- lines that a format can show; a text alone has none
abbrev pub lines_to_show : Rest → Result Rest Fault
lines_to_show (Bare lines) = Ok (Bare lines)
lines_to_show (Rich lines) = Ok (Rich lines)
lines_to_show (Text text) = Err fault.NoLine

-- They are copied in a format, or memory is refused, or the status of why there are none is answered. Where nothing is
-- copied neither buffer nor length changes.
abbrev pub CopiesShown : Format → Result Rest Fault → List ℕ → List ℕ → ℕ → ℕ → ℕ → Type 0
CopiesShown format answer before after old needed status =
    MatchResult answer (λ rest. ((cs : List ℕ) × ShowsRest format rest cs
    × IsCopied (encode_utf8_all cs) before after needed status)
    ⊎ Copies (Err fault.OutOfMemory) before after old needed status)
    (λ f. Copies (Err f) before after old needed status)

-- ---- the line that was taken last

abbrev pub is_bare : Rest → Bool
is_bare (Bare lines) = true
is_bare (Rich lines) = false
is_bare (Text text) = false

-- a line in a format, as bytes
abbrev pub bytes_as : Rest → Format → Result Line Fault → Result (List ℕ) Fault
bytes_as rest format (Ok line) = Ok (encode_utf8_all (line_as (is_bare rest) format line))
bytes_as rest format (Err f) = Err f

-- it in a format
abbrev pub current_as : Format → Lines → Result (List ℕ) Fault
current_as format lines = bytes_as lines.rest format (ok_or lines.current fault.NoLine)
