use Rattle.tbr_border.proofs.Common.{◌≡◌, map, take, length, cell_of, side_of, joined_under}
use Rattle.tbr_border.proofs.border.join_under.Given as goal

abbrev pub invariant-loop-i : goal.invariant-loop-i
invariant-loop-i l = record {
  cells : map cell_of l.segments.items ≡ joined_under (side_of l.side) (map cell_of l.fn.segments.items) l.pos (map cell_of (take l.i l.other));
  len : length l.segments.items ≡ length l.fn.segments.items;
}
