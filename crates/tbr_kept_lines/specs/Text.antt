-- The text of lines.
use Rattle.std.specs.Prelude.{ℕ, List, [], ◌∷◌, ◌++◌, flat_map}
use Rattle.tbr_model.specs.Codes.{newline_character}
use Rattle.tbr_model.specs.Run.{Item}
use Rattle.tbr_border.specs.Border.{shown}
use Rattle.tbr_tagged.specs.Walks.{item_characters}
use Rattle.tbr_kept_lines.specs.Line.{Line, text, border}

-- what a line shows; a border shows its holes too
abbrev pub items_shown : {T : Type 0} → Line T → List (Item T)
items_shown (text is) = is
items_shown (border b) = shown b.tag b

-- a line's characters and a newline
abbrev pub line_text : {T : Type 0} → Line T → List ℕ
line_text line = item_characters (items_shown line) ++ newline_character ∷ []

abbrev pub lines_text : {T : Type 0} → List (Line T) → List ℕ
lines_text lines = flat_map line_text lines
