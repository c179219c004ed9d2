use Rattle.tbr_border.proofs.Common.{◌≡◌, map, take, cell_of, side_of, joins_end}
use Rattle.tbr_border.proofs.border.joins_end.Given as goal

abbrev pub invariant-loop-i : goal.invariant-loop-i
invariant-loop-i l = l.end ≡ joins_end (side_of l.side) (map cell_of (take l.i l.other))
