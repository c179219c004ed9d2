use Rattle.tbr_tagged.proofs.Common.{◌≡◌, map, take, items_width, items_of, element_of}
use Rattle.tbr_tagged.proofs.elements.width_of.Given as goal

abbrev pub invariant-loop-element : goal.invariant-loop-element
invariant-loop-element g l = l.width ≡ items_width g.W.CharWidth.columns (items_of (map element_of (take l.element-index l.elements)))
