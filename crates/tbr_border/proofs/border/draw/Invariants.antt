use Rattle.tbr_border.proofs.Common.{◌≡◌, ◌++◌, map, length, chars, string_bytes, cell_of, character}
use Rattle.tbr_border.proofs.border.draw.Given as goal

abbrev pub invariant-loop-cell : goal.invariant-loop-cell
invariant-loop-cell l =
    chars (string_bytes l.text) ++ map character (map cell_of l.rest) ≡ chars (string_bytes l.fn.text) ++ map character (map cell_of l.fn.cells)

abbrev pub decreases-loop-cell : goal.decreases-loop-cell
decreases-loop-cell l = length l.rest
