-- The last line, where it is a border.
use Rattle.std.specs.Prelude.{Bool, true, false, ◌-◌, if◌then◌else◌, is_some, Option, None, Some, List, [], ◌∷◌, length, take}
use Rattle.std.specs.Borrow.{Bor}
use Rattle.tbr_border.specs.Border.{Border}
use Rattle.tbr_border.specs.declared.RenderLine.{RenderLine}
use Rattle.tbr_border.specs.declared.RenderLine.TheVariants.{Text, Line as Rule}
use Rattle.tbr_kept_lines.specs.Line.{Line, text, border}

-- whether a line is a border
abbrev pub is_rule : {T : Type 0} → RenderLine T → Bool
is_rule (Text es) = false
is_rule (Rule b) = true

-- whether there is a line that is a border
abbrev pub is_border : {T : Type 0} → Option (Bor (RenderLine T)) → Bool
is_border None = false
is_border (Some line) = is_rule line.now

-- the border that a line is, if it is one
abbrev pub border_in : {T : Type 0} → Line T → Option (Border T)
border_in (text is) = None
border_in (border b) = Some b

-- a list without its last item, if there is one
abbrev pub without_last : {X : Type 0} → List X → List X
without_last xs = take (length xs - 1) xs

-- the last line, if it is a border, and the lines without it
abbrev pub last_border : {T : Type 0} → List (Line T) → Option (Border T)
last_border [] = None
last_border (l ∷ []) = border_in l
last_border (l ∷ m ∷ ls) = last_border (m ∷ ls)

abbrev pub before_border : {T : Type 0} → List (Line T) → List (Line T)
before_border ls = if is_some (last_border ls) then without_last ls else ls
