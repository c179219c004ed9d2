use Rattle.tbr_border.proofs.Common.{◌≡◌, ◌+◌, ◌≤◌, ◌∙◌, map, length, ap, refl, arith, Hole, span_end, hole_of}
use Rattle.tbr_tagged.specs.View.{element_of}
use Rattle.tbr_border.specs.BorderView.{shown_by}
use Rattle.tbr_border.proofs.HolesInOrder.{last_end, span_end-is, mapped_push}
use Rattle.tbr_border.proofs.border.BorderHoriz.add_text_span.Goals as goal

pub invariant_of-self-2 : goal.invariant_of-self-2
invariant_of-self-2 g c =
    let shape = c.deref_mut-shape.result.now in
    let hole : Hole g.row.T.Denot = record { place = c.args.pos; width = c.in_ok-width.width; element = element_of c.args.element } in
    let same : map hole_of shape.holes.items ≡ c.args.self.now.holes = ap (λ b. (shown_by b).holes) c.deref_mut-shape.ensures.value ∙ ap (λ b. b.holes) c.self.view_is in
    let free : last_end 0 (map hole_of shape.holes.items) ≤ c.args.pos = omega (arith, c.requires, span_end-is (map hole_of shape.holes.items), ap span_end same) in
    let within : c.args.pos + c.in_ok-width.width ≤ length c.open.new.segments.items = omega (arith, c.open.ensures.len, c.in_default-stretch.ensures.len, c.in-Some.ensures) in
    mapped_push hole_of shape.holes.items c.push.new.self.items _ hole (length shape.segments.items)
    (length c.open.new.segments.items) c.in_ok-push.ensures.items refl
    (rw c.deref_mut-shape.ensures.value c.self.invariant) free within
