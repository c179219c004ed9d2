use Rattle.tbr_tagged.proofs.Common.{map, MapsElements, element_of}
use Rattle.tbr_tagged.proofs.elements.map_tag.Given as goal

abbrev pub invariant-loop-element : goal.invariant-loop-element
invariant-loop-element g l = MapsElements (goal.F-post g l.f) (map element_of l.yielded) (map element_of l.mapped.items)
