use Rattle.tbr_tagged.proofs.Common.{◌≡◌, false, map, take, has_piece, element_of}
use Rattle.tbr_tagged.proofs.elements.has_piece.Given as goal

abbrev pub invariant-loop-element : goal.invariant-loop-element
invariant-loop-element g l = has_piece (map element_of (take l.element-index l.elements)) ≡ false
