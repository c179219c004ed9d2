-- The lines of a renderer that is finished.
use Rattle.std.specs.Prelude.{◌≡◌, ℕ, Bool, true, Option, List, [], ◌∷◌, ◌++◌, flat_map}
use Rattle.std.specs.Global.{Vec}
use Rattle.tbr_model.specs.Codes.{newline_character}
use Rattle.tbr_border.specs.declared.RenderLine.{RenderLine}
use Rattle.tbr_border.specs.RenderLine.{line_items}
use Rattle.tbr_tagged.specs.Walks.{item_characters}
use Rattle.tbr_tagged.specs.View.{chars_of}
use Rattle.tbr_decor.specs.declared.annotation.RichAnnotation.{RichAnnotation}
use Rattle.tbr_decor.specs.declared.annotation.RichAnnotation.TheVariants.{Default}
use Rattle.tbr_decor.specs.contracts.annotation.RichAnnotationPartialEq.TheImpl as rich
use Rattle.tbr_annotations.specs.Written.{IsWrittenOut}
use Rattle.tbr_decor.specs.Style.{style_of}
use Rattle.tbr_c_lines.specs.Line.{Line, IsSeenAs}
use Rattle.tbr_c_lines.specs.declared.lines.Rest.{Rest}
use Rattle.tbr_c_lines.specs.declared.lines.Rest.TheVariants.{Bare, Rich, Text}

-- Those that weren't taken, and the one that was taken last.
pub record Lines : Type 0 where
  pub rest : Rest
  pub current : Option Line

-- a line's characters and a newline
abbrev pub line_text : {A : Type 0} → RenderLine A → List ℕ
line_text line = item_characters (line_items line) ++ newline_character ∷ []

-- the text of lines, each with a newline
abbrev pub text_of : Rest → List ℕ
text_of (Bare lines) = flat_map line_text lines.items
text_of (Rich lines) = flat_map line_text lines.items
text_of (Text text) = chars_of text

-- whether none is left that can be taken
abbrev pub NoneLeft : Rest → Type 0
NoneLeft (Bare lines) = lines.items ≡ []
NoneLeft (Rich lines) = lines.items ≡ []
NoneLeft (Text text) = Unit {0}

-- ---- taking one

-- an annotation that says nothing, and the equality of those
abbrev pub bare : Unit {0} → RichAnnotation
bare _ = Default

abbrev pub equal_bare : Unit {0} → Unit {0} → Bool
equal_bare _ _ = true

-- an annotation as it is
abbrev pub itself : RichAnnotation → RichAnnotation
itself annotation = annotation

-- The first of some lines, written out, is seen as this one, and these are left.
abbrev pub Takes : {A M : Type 0} → (A → M) → (A → A → Bool) → (A → RichAnnotation) → List (RenderLine (List M)) →
    Line → List (RenderLine (List M)) → Type 0
Takes {A} {M} meaning eq shown lines seen rest =
    (line : RenderLine (List M)) × (out : RenderLine (Vec A)) × (lines ≡ line ∷ rest) × IsWrittenOut meaning eq line out
    × IsSeenAs eq shown out seen

abbrev pub TakesFirst : Rest → Line → Rest → Type 0
TakesFirst (Bare lines) seen (Bare rest) = Takes (λ a. a) equal_bare bare lines.items seen rest.items
TakesFirst (Rich lines) seen (Rich rest) = Takes style_of rich.ghosts.eq itself lines.items seen rest.items
TakesFirst (Bare lines) seen other = ⊥
TakesFirst (Rich lines) seen other = ⊥
TakesFirst (Text text) seen other = ⊥
