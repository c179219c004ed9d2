-- Lines as they are written in a format, and what is shown of a script.
use Rattle.std.specs.Prelude.{◌≡◌, ℕ, ◌==◌, Bool, true, false, if◌then◌else◌, Option, None, Some, List, [], ◌∷◌, ◌++◌, map}
use Rattle.std.specs.Global.{Vec}
use Rattle.std.specs.Option.{unwrap_or}
use Rattle.tbr_model.specs.Codes.{newline_character}
use Rattle.tbr_tags.specs.Lists.{equal_lists}
use Rattle.tbr_tagged.specs.Elements.{Element, items_of, characters, SameItems}
use Rattle.tbr_tagged.specs.Mapped.{MapsElements}
use Rattle.tbr_border.specs.RenderLine.{line_items, IsItself}
use Rattle.tbr_tagged.specs.Walks.{item_characters}
use Rattle.tbr_border.specs.declared.RenderLine.{RenderLine}
use Rattle.tbr_border.specs.declared.RenderLine.TheVariants.{Text as Words, Line as Rule}
use Rattle.tbr_decor.specs.declared.annotation.RichAnnotation.{RichAnnotation}
use Rattle.tbr_decor.specs.contracts.annotation.RichAnnotationPartialEq.TheImpl as annotation
use Rattle.tbr_annotations.specs.Written.{IsWrittenOut}
use Rattle.tbr_decor.specs.Decoration.{Decoration}
use Rattle.tbr_decor.specs.Style.{style_of}
use Rattle.tbr_kept_lines.specs.Line.{line_seen}
use Rattle.tbr_script.specs.Script.{lines_of}
use Rattle.tbr_program.specs.Decorations.{plain_decoration, trivial_decoration, rich_decoration}
use Rattle.tbr_commands.specs.declared.opening.Decorator.{Decorator}
use Rattle.tbr_commands.specs.declared.opening.Decorator.TheVariants.{Plain, Trivial, Rich}
use Rattle.tbr_commands.specs.declared.opening.Opening.{Opening}
use Rattle.tbr_show.specs.Ansi as ansi
use Rattle.tbr_show.specs.Ndjson as json
use Rattle.tbr_show.specs.Html as html
use Rattle.tbr_view.specs.Script.{Begins}
use Rattle.tbr_view.specs.Tables.{Place}
use Rattle.tbr_view.specs.Lines.{LinesGive, begun}
use Rattle.tbr_view.specs.declared.script.Format.{Format}
use Rattle.tbr_view.specs.declared.script.Format.TheVariants.{Text, Bare, Ansi, Ndjson, Html}
use Rattle.tbr_view.specs.declared.script.Settings.{Settings}

-- ---- lines

-- whether a line is a border
abbrev pub is_border : {A : Type 0} → RenderLine A → Bool
is_border (Words line) = false
is_border (Rule border) = true

abbrev pub is_text : Format → Bool
is_text Text = true
is_text other = false

-- a line's characters and a newline
abbrev pub line_text : {A : Type 0} → RenderLine A → List ℕ
line_text line = item_characters (line_items line) ++ newline_character ∷ []

-- Elements of a line of text, or of a border as pieces with its cells under its own annotations.
abbrev pub AreElements : {A : Type 0} → (A → A → Bool) → RenderLine (Vec A) → List (Element (Vec A)) → Type 0
AreElements eq line es = IsItself line es × SameItems (equal_lists eq) (items_of es) (line_items line)

-- elements under annotations in a format
abbrev pub elements_in : (ℕ → Option ℕ) → Format → Bool → List (Element (Vec RichAnnotation)) → List ℕ
elements_in columns Text is_border es = characters es ++ newline_character ∷ []
elements_in columns Bare is_border es = ansi.bare_line es
elements_in columns Ansi is_border es = ansi.line es
elements_in columns Ndjson is_border es = json.line columns is_border es
elements_in columns Html is_border es = html.line columns es

-- what is shown of annotations: nothing, or all
abbrev pub none : List (Unit {0}) → List RichAnnotation
none annotations = []

abbrev pub themselves : List RichAnnotation → List RichAnnotation
themselves annotations = annotations

-- a list of annotations as what is shown of it
abbrev pub IsRich : {A : Type 0} → (List A → List RichAnnotation) → Vec A → Vec RichAnnotation → Type 0
IsRich rich tag shown = shown.items ≡ rich tag.items

-- A line under vectors in a format that shows them, under annotations of this equality, of which this is shown.
abbrev pub ShowsAnnotated : {A : Type 0} → (A → A → Bool) → (List A → List RichAnnotation) → (ℕ → Option ℕ) →
    Format → RenderLine (Vec A) → List ℕ → Type 0
ShowsAnnotated {A} eq rich columns format line cs =
    (es : List (Element (Vec A))) × (shown : List (Element (Vec RichAnnotation))) × AreElements eq line es
    × MapsElements (IsRich rich) es shown × (cs ≡ elements_in columns format (is_border line) shown)

-- A line in a format: its text alone, or what is written out of it.
abbrev pub ShowsLine : {A M : Type 0} → (A → M) → (A → A → Bool) → (List A → List RichAnnotation) → (ℕ → Option ℕ) →
    Format → RenderLine (List M) → List ℕ → Type 0
ShowsLine meaning eq rich columns Text line cs = cs ≡ line_text line
ShowsLine {A} meaning eq rich columns format line cs =
    (out : RenderLine (Vec A)) × IsWrittenOut meaning eq line out × ShowsAnnotated eq rich columns format out cs

-- lines one after another
abbrev pub AreShown : {L : Type 0} → (L → List ℕ → Type 0) → List L → List ℕ → Type 0
AreShown Shows [] cs = cs ≡ []
AreShown Shows (line ∷ lines) cs =
    (first : List ℕ) × (rest : List ℕ) × Shows line first × AreShown Shows lines rest × (cs ≡ first ++ rest)

-- the equality of no annotations
abbrev pub equal_units : Unit {0} → Unit {0} → Bool
equal_units _ _ = true

-- ---- scripts

-- the columns that are set, or those of the script
abbrev pub width_in : Option ℕ → ℕ → ℕ
width_in None own = own
width_in (Some columns) own = if columns == 0 then own else columns

-- a first command in the columns and under the decorator that are set, or its own
abbrev pub opening_in : Settings → Opening → Opening
opening_in settings opening = record opening {
  width = width_in settings.width opening.width;
  decorator = unwrap_or settings.decorator opening.decorator;
}

-- Characters that are the lines of a script in a format, under a decorator with annotations of this meaning and
-- equality, of which this is shown.
abbrev pub ShowsScript : {D A M : Type 0} → (A → M) → (A → A → Bool) → (List A → List RichAnnotation) →
    (ℕ → Option ℕ) → Decoration D M → Place D M → List (List ℕ) → Format → List ℕ → Type 0
ShowsScript {D} {A} {M} meaning eq rich columns decoration start script format cs =
    (lines : List (RenderLine (List M))) × LinesGive columns decoration start script (map line_seen lines)
    × AreShown (ShowsLine meaning eq rich columns format) lines cs

-- the same under the decorator of this name, after this first command
abbrev pub ShowsUnder :
    (ℕ → Option ℕ) → Decorator → Opening → List (List ℕ) → Format → List ℕ → Type 0
ShowsUnder columns Plain opening script format cs =
    ShowsScript (λ a. a) equal_units none columns plain_decoration (begun opening (record {})) script format cs
ShowsUnder columns Trivial opening script format cs =
    ShowsScript (λ a. a) equal_units none columns trivial_decoration (begun opening (record {})) script format cs
ShowsUnder columns Rich opening script format cs =
    ShowsScript style_of annotation.ghosts.eq themselves columns rich_decoration (begun opening (record {})) script
    format cs

-- These characters are what is shown of a script that begins with a first command: the lines that the others give, in
-- the format that is set, in the columns and under the decorator that are set, or those of the script.
pub record IsShown (columns : ℕ → Option ℕ) (script : List ℕ) (settings : Settings) (cs : List ℕ) : Type 0 where
  pub opening : Opening
  pub number : ℕ
  pub rest : List ℕ
  pub begins : Begins script opening number rest
  pub shows : ShowsUnder columns (unwrap_or settings.decorator opening.decorator) (opening_in settings opening)
      (lines_of rest) settings.format cs
