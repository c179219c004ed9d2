use Rattle.tbr_border.proofs.Common.{◌≤◌, map, length, ap, arith, hole_of}
use Rattle.tbr_border.proofs.HolesInOrder.{same_order, in_order_longer}
use Rattle.tbr_border.proofs.border.BorderHoriz.clone.Goals as goal

pub invariant_of-result : goal.invariant_of-result
invariant_of-result g c =
    let shape = c.deref-shape.result.now in
    let cells = length shape.segments.items in
    let long : cells ≤ length c.in_ok-segments.segments.items = omega (arith, ap length c.in_ok-segments.ensures.items, ap length c.deref-2.ensures.value) in
    let order = same_order g.T.PartialEq.eq 0 (map hole_of c.in_ok-holes.holes.items) (map hole_of shape.holes.items) cells
    (rw c.deref.ensures.value at c.in_ok-holes.ensures) (rw c.deref-shape.ensures c.self.invariant) in
    rw c.in_ok-new.ensures.ok (in_order_longer 0 (map hole_of c.in_ok-holes.holes.items) cells (length c.in_ok-segments.segments.items) order long)
