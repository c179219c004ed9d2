use Rattle.tbr_tagged.proofs.Common.{map, take, map_push, AllZip-push, element_of, SameElement}
use Rattle.tbr_tagged.proofs.ElementLoops.{one_more}
use Rattle.tbr_tagged.proofs.elements.clone.Goals as goal

pub loop-element-preserved : goal.loop-element-preserved
loop-element-preserved g c =
    rw (
      c.in_ok-push.ensures.items,
      map_push,
      one_more element_of c.deref-element-items.result.now c.loop-element.element-index c.element-item.result c.loop-element-test.true c.element-item.is,
    )
    (AllZip-push (SameElement g.T.PartialEq.eq) (map element_of c.loop-element.copy.items)
    (map element_of (take c.loop-element.element-index c.deref-element-items.result.now))
    (element_of c.in_ok-clone.field-0) (element_of c.element-item.result)
    c.loop-element.invariant c.in_ok-clone.ensures.same)
