use Rattle.tbr_renderer.proofs.Common.{◌++◌, map, items_of, SameItems, element_of}
use Rattle.tbr_tagged.specs.Elements.{IsMerged}
use Rattle.tbr_renderer.proofs.sub.after_markers.Given as goal

abbrev pub invariant-loop-marker : goal.invariant-loop-marker
invariant-loop-marker g l = SameItems g.T.PartialEq.eq (items_of l.whole) (items_of (map element_of l.yielded)) × IsMerged g.T.PartialEq.eq l.whole

abbrev pub invariant-loop-element : goal.invariant-loop-element
invariant-loop-element g l = SameItems g.T.PartialEq.eq (items_of l.whole) (items_of (map element_of l.fn.markers.items) ++ items_of (map element_of l.yielded)) × IsMerged g.T.PartialEq.eq l.whole
