-- Lines as a contract sees them.
use Rattle.std.specs.Prelude.{◌≡◌, Bool, not, List, [], ◌∷◌}
use Rattle.tbr_model.specs.Run.{Item, has_character}
use Rattle.tbr_border.specs.Border.{Border, has_holes}
use Rattle.tbr_tagged.specs.Elements.{SameItems, items_of}
use Rattle.tbr_border.specs.declared.RenderLine.{RenderLine}
use Rattle.tbr_border.specs.declared.RenderLine.TheVariants.{Text, Line as Rule}

-- A line: a text, or a border.
pub data Line (T : Type 0) : Type 0 where
  text : List (Item T) → Line T
  border : Border T → Line T

-- a line of text with a character, or a border without holes
abbrev pub line_has_content : {T : Type 0} → Line T → Bool
line_has_content (text is) = has_character is
line_has_content (border b) = not (has_holes b.holes)

-- a line as a contract sees it: a text by its items, or a border
abbrev pub line_seen : {T : Type 0} → RenderLine T → Line T
line_seen (Text es) = text (items_of es)
line_seen (Rule b) = border b

-- texts as lines
abbrev pub text_lines : {T : Type 0} → List (List (Item T)) → List (Line T)
text_lines [] = []
text_lines (is ∷ texts) = text is ∷ text_lines texts

-- equal borders, or texts of the same items under equal tags
abbrev pub SameSeen : {T : Type 0} → (T → T → Bool) → Line T → Line T → Type 0
SameSeen eq (text is) (text js) = SameItems eq is js
SameSeen eq (border b) (border c) = b ≡ c
SameSeen eq (text is) (border c) = ⊥
SameSeen eq (border b) (text js) = ⊥
