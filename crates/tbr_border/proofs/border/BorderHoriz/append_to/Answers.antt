use Rattle.tbr_border.proofs.Common.{element_characters, ◌≡◌, ◌∷◌, [], ◌++◌, map, take, length, chars, ap, ◌∙◌, arith, append_assoc, append-nil, refl, string_bytes, chars-append, IsUtf8-string_bytes}
use Rattle.tbr_border.proofs.Common.{take_all, on_ok_weaker, item_characters, cell_of, shown_from, hole_of, one_more}
use Rattle.tbr_border.proofs.BorderText.{in_order_within, hole_at, map-slice, cells_from, text_step, text_end}
use Rattle.tbr_border.proofs.border.BorderHoriz.append_to.Goals as goal

pub slice_bounds-draw-end : goal.slice_bounds-draw-end
slice_bounds-draw-end g c =
    let here =
    hole_at hole_of c.deref-span-items.result.now c.loop-span.span-index c.span-item.result c.loop-span.at
    (length c.as_slice-cells.result.now) c.loop-span-test.true c.span-item.is c.loop-span.invariant.fit in
    omega (arith, here.0, in_order_within _ _ _ here.1)

pub overflow_add-at : goal.overflow_add-at
overflow_add-at g c =
    let here =
    hole_at hole_of c.deref-span-items.result.now c.loop-span.span-index c.span-item.result c.loop-span.at
    (length c.as_slice-cells.result.now) c.loop-span-test.true c.span-item.is c.loop-span.invariant.fit in
    omega (
      arith,
      in_order_within _ _ _ here.1,
      ap length c.as_slice-cells.ensures.value,
      c.self.inside.shape.value.segments.ok.0,
      c.self.inside.shape.value.segments.ok.1,
      c.self.inside.shape.value.segments.small,
    )

pub loop-span-preserved : goal.loop-span-preserved
loop-span-preserved g c =
    let tag = c.args.self.now.tag in
    let cells = map cell_of c.as_slice-cells.result.now in
    let hole = hole_of c.span-item.result in
    let here =
    hole_at hole_of c.deref-span-items.result.now c.loop-span.span-index c.span-item.result c.loop-span.at
    (length c.as_slice-cells.result.now) c.loop-span-test.true c.span-item.is c.loop-span.invariant.fit in
    let drew = rw map-slice at c.in_ok-draw.ensures in
    let pushed : chars (string_bytes c.push_str.new.self) ≡ chars (string_bytes c.draw.new.text) ++ element_characters hole.element =
    rw (c.in_ok-push_str.ensures.bytes, chars-append (string_bytes c.draw.new.text) c.as_str.result.now (IsUtf8-string_bytes c.draw.new.text), c.as_str.ensures) refl in
    let more = one_more hole_of c.deref-span-items.result.now c.loop-span.span-index c.span-item.result c.loop-span-test.true c.span-item.is in
    record {
      text = λ rest. rw (more, append_assoc)
          (text_step tag cells c.loop-span.at hole rest (chars (string_bytes c.loop-span.text)) (chars (string_bytes c.draw.new.text)) (chars (string_bytes c.push_str.new.self)) drew pushed
          ∙ c.loop-span.invariant.text (hole ∷ rest));
      fit = here.1;
    }

pub returns : goal.returns
returns g c =
    let old = chars (string_bytes c.args.text.now) in
    let tag = c.args.self.now.tag in
    let cells = map cell_of c.as_slice-cells.result.now in
    let holes = c.deref-span-items.result.now in
    let had = chars (string_bytes c.loop-span.text) in
    let all : map hole_of (take c.loop-span.span-index holes) ++ [] ≡ map hole_of holes = rw (append-nil, take_all c.loop-span.span-index holes c.loop-span-test.false) refl in
    on_ok_weaker c.draw-2.result (λ drew.
    let done = text_end tag cells c.loop-span.at had (chars (string_bytes c.draw-2.new.text)) (rw cells_from at drew) ∙ c.loop-span.invariant.text [] in
    (rw (all, c.deref-span-items.ensures.value, c.as_slice-cells.ensures.value, c.deref-shape.ensures) at done)
    ∙ ap (λ b. old ++ item_characters (shown_from tag b.cells 0 b.holes)) c.self.view_is) c.draw-2.ensures
