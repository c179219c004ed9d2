-- Lines as a renderer keeps them.
use Rattle.std.specs.Prelude.{◌≡◌, Bool, not, ⊤, List}
use Rattle.tbr_model.specs.Run.{Item}
use Rattle.tbr_border.specs.declared.render_line.RenderLine.{RenderLine}
use Rattle.tbr_border.specs.declared.render_line.RenderLine.TheVariants.{Text, Line}
use Rattle.tbr_tagged.specs.Elements.{Element, items_of, has_piece, SameElements, IsMerged}
use Rattle.tbr_border.specs.Border.{shown, has_holes, SameBorder}

-- a line's items; a border's cells are under its own tag
abbrev pub line_items : {A : Type 0} → RenderLine A → List (Item A)
line_items (Text line) = items_of line
line_items (Line border) = shown border.tag border

-- the same with a border's cells under another tag
abbrev pub items_under : {A : Type 0} → A → RenderLine A → List (Item A)
items_under a (Text line) = items_of line
items_under a (Line border) = shown a border

-- a text line with a piece, or a border without holes
abbrev pub has_content : {A : Type 0} → RenderLine A → Bool
has_content (Text line) = has_piece line
has_content (Line border) = not (has_holes border.holes)

-- a line of text is handed out as it is
abbrev pub IsItself : {A : Type 0} → RenderLine A → List (Element A) → Type 0
IsItself (Text line) es = es ≡ line
IsItself (Line border) es = ⊤

-- the pieces of a line of text are the longest stretches under equal tags
abbrev pub IsMergedText : {A : Type 0} → (A → A → Bool) → RenderLine A → Type 0
IsMergedText eq (Text line) = IsMerged eq line
IsMergedText eq (Line border) = ⊤

abbrev pub SameLine : {A : Type 0} → (A → A → Bool) → RenderLine A → RenderLine A → Type 0
SameLine eq (Text line) (Text other) = SameElements eq line other
SameLine eq (Line border) (Line other) = SameBorder eq border other
SameLine eq (Text line) (Line border) = ⊥
SameLine eq (Line border) (Text line) = ⊥
