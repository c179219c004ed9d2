-- Lines under other tags.
use Rattle.tbr_model.specs.Mapped.{map_items}
use Rattle.tbr_rows.specs.Meant.{map_border}
use Rattle.tbr_kept_lines.specs.Line.{Line, text, border}

-- a line with each tag as what a function makes of it
abbrev pub map_line : {T U : Type 0} → (T → U) → Line T → Line U
map_line f (text is) = text (map_items f is)
map_line f (border b) = border (map_border f b)
