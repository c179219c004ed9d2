use Rattle.tbr_border.proofs.Common.{◌≡◌, ◌+◌, length, map, ap, ◌∙◌, arith, rules, span_end, hole_of}
use Rattle.tbr_border.proofs.HolesInOrder.{span_end-is, span_end-last, in_order_end}
use Rattle.tbr_border.proofs.border.BorderHoriz.span_end.Goals as goal

last_is : (g : _) (c : goal.In-Some g) → c.in-Some.span.now.place + c.in-Some.span.now.width ≡ span_end (map hole_of c.self.inside.shape.value.holes.items)
last_is g c = search (rules, span_end-last, c.deref-2.ensures.value, c.deref.ensures, c.in-Some.ensures.item.1, c.in-Some.ensures.item.3.0)

pub overflow_add-result : goal.overflow_add-result
overflow_add-result g c =
    let holes = map hole_of c.self.inside.shape.value.holes.items in
    omega (
      arith,
      last_is g c,
      span_end-is holes,
      in_order_end 0 holes (length c.self.inside.shape.value.segments.items)
          c.self.invariant,
      c.self.inside.shape.value.segments.ok.0,
      c.self.inside.shape.value.segments.ok.1,
      c.self.inside.shape.value.segments.small,
    )

pub returns-in-Some : goal.returns-in-Some
returns-in-Some g c = last_is g c ∙ ap (λ b. span_end b.holes) c.self.view_is
