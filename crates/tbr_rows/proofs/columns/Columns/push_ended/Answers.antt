use Rattle.tbr_rows.proofs.Common.{◌≡◌, true, ◌-◌, ◌++◌, ◌∷◌, [], map, ap, sym, ◌∙◌, subst, AllZip, items_width, aligned_items, FillsText, next_place}
use Rattle.tbr_rows.specs.CellLines.{as_lines}
use Rattle.tbr_rows.proofs.CellLines.{texts_fill}
use Rattle.tbr_rows.proofs.Seats.{side_by_side_push}
use Rattle.tbr_rows.proofs.columns.Columns.push_ended.Goals as goal

pub invariant_of-self-2 : goal.invariant_of-self-2
invariant_of-self-2 g c =
    rw c.in_ok-push.ensures.items (side_by_side_push c.self.inside.cells.items _ c.self.invariant (c.in_ok-place.ensures ∙ ap next_place c.deref.ensures.value))

pub returns-clause-side_by_side : goal.returns-clause-side_by_side
returns-clause-side_by_side g c =
    rw c.in_ok-push.ensures.items (side_by_side_push c.self.inside.cells.items _ c.self.invariant (c.in_ok-place.ensures ∙ ap next_place c.deref.ensures.value))

pub returns-clause-ok : goal.returns-clause-ok
returns-clause-ok g c =
    let eq = g.T.PartialEq.eq in
    let columns = g.W.CharWidth.columns in
    let tag = c.args.tag.now in
    let copy = c.in_ok-clone.field-0 in
    let cells = c.self.inside.cells.items in
    let under : eq copy tag ≡ true = g.met.T.Eq.laws.symm copy tag ∙ g.met.T.Tag.copies_equal tag copy c.in_ok-clone.ensures.cases in
    let fill = map (λ is. aligned_items c.args.align is (c.args.width - items_width columns is) copy) in
    let filled : c.in_text.result ≡ as_lines eq (fill c.args.lines) = c.in_text.ensures ∙ ap (as_lines eq) (c.in_ok-lines.ensures ∙ ap fill c.lines.view_is) in (
      c.in_text.result,
      subst (λ ls. AllZip (FillsText columns eq c.args.align c.args.width tag) c.args.lines ls) (sym filled)
          (texts_fill eq g.met.T.Eq.laws columns c.args.align c.args.width tag copy under c.args.lines),
      rw (← c.self.view_is)
          (c.in_ok-push.ensures.items
          ∙ ap (λ place. cells ++ record {
            place = place;
            width = c.args.width;
            span = c.args.span;
            lines =
                c.in_text.result;
          } ∷ []) (c.in_ok-place.ensures ∙ ap next_place c.deref.ensures.value)),
    )
