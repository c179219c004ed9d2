use Rattle.tbr_tagged.proofs.Common.{map, take, SameElements, element_of}
use Rattle.tbr_tagged.proofs.elements.clone.Given as goal

abbrev pub invariant-loop-element : goal.invariant-loop-element
invariant-loop-element g l = SameElements g.T.PartialEq.eq (map element_of l.copy.items) (map element_of (take l.element-index l.element-items))
