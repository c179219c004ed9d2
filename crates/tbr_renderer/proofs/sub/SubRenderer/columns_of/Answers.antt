use Rattle.tbr_renderer.proofs.Common.{unwrap_or, ◌++◌, ◌∷◌, [], map, refl, sym, subst, ap, ◌∙◌, rules, AllZip, Each, into_iter_items, TooNarrow, cell_after, Left, LeavesFree, filled}
use Rattle.tbr_renderer.proofs.Common.{cells_handed_out, pointwise, handed_out, EndsBest, items_left, items_taken, each_append, each_at}
use Rattle.tbr_renderer.proofs.GivenCells.{given_stops}
use Rattle.tbr_renderer.proofs.OutcomeParts.{passed_on}
use Rattle.tbr_renderer.proofs.PutRows.{no_columns, columns_go_on, all_come, next_taken, lines_fill}
use Rattle.tbr_renderer.proofs.sub.SubRenderer.columns_of.Goals as goal

pub loop-col-init : goal.loop-col-init
loop-col-init g c = search (rules, no_columns, c.new-columns.ensures, c.iter-aligns.ensures.rest)

pub returns-in_err-lines-clause-too_narrow : goal.returns-in_err-lines-clause-too_narrow
returns-in_err-lines-clause-too_narrow g c = λ is.
    let columns = g.W.CharWidth.columns in
    let e = passed_on is c.from_residual-in_err-lines.ensures.1 c.in_err-lines.was in
    let all = c.into_iter-col-iterator.result in
    let whole = sym c.into_iter-col-iterator.ensures.into_iter_gives.0
    ∙ items_left all all c.loop-col.col-iterator c.next.new.self c.loop-col.yielded
    (c.in-Some.col, c.in-Some.span) refl c.loop-col.yielded_by c.in-Some.ensures.steps.0 in
    let inv = c.loop-col.invariant.0 in
    ap (λ cols. cells_handed_out columns cols c.args.aligns.now) whole
    ∙ given_stops (λ r. r.width) (λ r. handed_out columns r) c.loop-col.yielded c.args.aligns.now inv.cells
    (c.in-Some.col, c.in-Some.span) inv.given (into_iter_items c.next.new.self) TooNarrow (c.into_kept.ensures.too_narrow e)

pub returns-in_err-lines-clause-two_columns : goal.returns-in_err-lines-clause-two_columns
returns-in_err-lines-clause-two_columns g c = λ wide is.
    let e = passed_on is c.from_residual-in_err-lines.ensures.1 c.in_err-lines.was in
    let all = c.into_iter-col-iterator.result in
    let whole = sym c.into_iter-col-iterator.ensures.into_iter_gives.0
    ∙ items_left all all c.loop-col.col-iterator c.next.new.self c.loop-col.yielded
    (c.in-Some.col, c.in-Some.span) refl c.loop-col.yielded_by c.in-Some.ensures.steps.0 in
    let here = each_at _ c.loop-col.yielded (c.in-Some.col, c.in-Some.span) (into_iter_items c.next.new.self) (subst (Each _) whole wide) in
    c.into_kept.ensures.two_columns here.0 here.1 e

pub loop-col-preserved : goal.loop-col-preserved
loop-col-preserved g c =
    let same = g.D.Annotation.Tag.same in let tells = g.D.Annotation.Tag.tells in
    let columns = g.W.CharWidth.columns in
    let lines = c.in_ok-lines.lines in
    let seen = lines in
    let own = c.loop-col.columns in
    let col = c.in-Some.col in
    let done = c.in_ok-push_cell.ensures.ok.0 in
    let zip = c.in_ok-push_cell.ensures.ok.1 in
    let next = next_taken (λ it. it.rest.now) c.loop-col.aligns c.next-in-loop-col.new.self c.next-in-loop-col.result
    c.unwrap_or-align.result c.next-in-loop-col.ensures.steps (c.unwrap_or-align.ensures ∙ ap (λ o. unwrap_or o Left) c.copied.ensures) in
    let fills = lines_fill same tells columns c.unwrap_or-align.result c.width-width.result c.in_ok-tag.tag lines done zip in (
      columns_go_on (pointwise same) columns c.args.aligns.now c.args.self.now.annotations c.loop-col.yielded own
          c.push_cell.new.columns c.loop-col.aligns.rest.now c.next-in-loop-col.new.self.rest.now col c.in-Some.span
          c.unwrap_or-align.result seen done c.loop-col.invariant.0
          c.in_ok-lines.ensures.lines
          next.0 next.1
          (fills ∙ (λ i. map (filled (pointwise same) columns c.unwrap_or-align.result (c.width-width.ensures i) (c.in_ok-tag.ensures i)) seen))
          (c.in_ok-push_cell.ensures.ok.2 ∙ ap (λ n. own ++ cell_after own n c.in-Some.span done ∷ []) c.width-width.ensures),
      c.in_ok-push_cell.ensures.side_by_side,
      each_append (λ cell. EndsBest columns cell.0) c.loop-col.yielded ((col, c.in-Some.span) ∷ []) c.loop-col.invariant.2 (c.in_ok-lines.ensures.best, tt),
    )

pub returns-clause-cells : goal.returns-clause-cells
returns-clause-cells g c =
    let all = c.into_iter-col-iterator.result in
    let whole = sym c.into_iter-col-iterator.ensures.into_iter_gives.0
    ∙ items_taken all all c.loop-col.col-iterator c.next.new.self c.loop-col.yielded refl c.loop-col.yielded_by c.in-None.ensures.steps in
    let h = c.loop-col.invariant.0 in (
      h.cells,
      ap (λ cols. cells_handed_out g.W.CharWidth.columns cols c.args.aligns.now) whole
          ∙ h.given,
      all_come (pointwise g.D.Annotation.Tag.same) g.W.CharWidth.columns c.args.self.now.annotations 0
          h.cells c.loop-col.columns h.come c.loop-col.invariant.1,
    )

pub returns-clause-free : goal.returns-clause-free
returns-clause-free g c =
    let all = c.into_iter-col-iterator.result in
    let whole = sym c.into_iter-col-iterator.ensures.into_iter_gives.0
    ∙ items_taken all all c.loop-col.col-iterator c.next.new.self c.loop-col.yielded refl c.loop-col.yielded_by c.in-None.ensures.steps in
    subst (λ cols. AllZip (LeavesFree g.W.CharWidth.columns) cols c.loop-col.columns) (sym whole) c.loop-col.invariant.0.free

pub returns-clause-best : goal.returns-clause-best
returns-clause-best g c =
    let all = c.into_iter-col-iterator.result in
    let whole = sym c.into_iter-col-iterator.ensures.into_iter_gives.0
    ∙ items_taken all all c.loop-col.col-iterator c.next.new.self c.loop-col.yielded refl c.loop-col.yielded_by c.in-None.ensures.steps in
    subst (Each (λ col. EndsBest g.W.CharWidth.columns col.0)) (sym whole) c.loop-col.invariant.2
