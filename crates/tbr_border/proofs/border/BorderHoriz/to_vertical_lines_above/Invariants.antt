use Rattle.tbr_border.proofs.Common.{◌≡◌, map, take, chars, string_bytes, cell_of, line_above}
use Rattle.tbr_border.proofs.border.BorderHoriz.to_vertical_lines_above.Given as goal

abbrev pub invariant-loop-cell : goal.invariant-loop-cell
invariant-loop-cell g l = chars (string_bytes l.text) ≡ map line_above (map cell_of (take l.cell-index l.cell-items))
