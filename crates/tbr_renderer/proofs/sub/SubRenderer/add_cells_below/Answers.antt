use Rattle.tbr_renderer.proofs.Common.{[], ◌∷◌, ap, subst, sym, map, ◌∙◌, Each, into_iter_items, TooNarrow, line_seen, EndsBest, gathered, each_append, each_at, items_left, items_taken}
use Rattle.tbr_renderer.proofs.OutcomeParts.{passed_on, gathered_stops}
use Rattle.tbr_renderer.proofs.AppendedLines.{hands, no_cells, cells_go_on}
use Rattle.tbr_renderer.proofs.sub.SubRenderer.add_cells_below.Goals as goal

pub loop-col-init : goal.loop-col-init
loop-col-init g c = (no_cells g.W.CharWidth.columns c.args.self.now c.requires, tt)

pub returns-in_err-lines-clause-too_narrow : goal.returns-in_err-lines-clause-too_narrow
returns-in_err-lines-clause-too_narrow g c = λ is.
    let columns = g.W.CharWidth.columns in
    let e = passed_on is c.from_residual-in_err-lines.ensures.1 c.in_err-lines.was in
    let whole = items_left c.args.cols c.into_iter-col-iterator.result c.loop-col.col-iterator c.next.new.self
    c.loop-col.yielded c.in-Some.col c.into_iter-col-iterator.ensures.into_iter_gives c.loop-col.yielded_by c.in-Some.ensures.steps.0 in
    let give = hands columns c.args.self.now in
    ap (gathered give) whole
    ∙ gathered_stops give c.loop-col.yielded c.loop-col.invariant.0.cells c.in-Some.col
    (into_iter_items c.next.new.self) TooNarrow c.loop-col.invariant.0.hand (c.into_shared_lines.ensures.too_narrow e)

pub returns-in_err-lines-clause-two_columns : goal.returns-in_err-lines-clause-two_columns
returns-in_err-lines-clause-two_columns g c = λ wide is.
    let e = passed_on is c.from_residual-in_err-lines.ensures.1 c.in_err-lines.was in
    let whole = items_left c.args.cols c.into_iter-col-iterator.result c.loop-col.col-iterator c.next.new.self
    c.loop-col.yielded c.in-Some.col c.into_iter-col-iterator.ensures.into_iter_gives c.loop-col.yielded_by c.in-Some.ensures.steps.0 in
    let here = each_at _ c.loop-col.yielded c.in-Some.col (into_iter_items c.next.new.self) (subst (Each _) whole wide) in
    c.into_shared_lines.ensures.two_columns here.0 here.1 e

pub loop-col-preserved : goal.loop-col-preserved
loop-col-preserved g c =
    let lines = c.in_ok-lines.lines.items in
    let columns = g.W.CharWidth.columns in (
      cells_go_on columns c.args.self.now c.loop-col.yielded c.in-Some.col (map line_seen lines) c.loop-col.self c.add_divider.new.self c.add_cell.new.self c.loop-col.invariant.0
          c.in_ok-lines.ensures.lines
          c.in_ok-add_divider.ensures.divider c.in_ok-add_cell.ensures.lines c.in_ok-add_divider.ensures.settings c.in_ok-add_cell.ensures.settings c.in_ok-add_cell.ensures.unfailed,
      each_append (λ col. EndsBest columns col) c.loop-col.yielded (c.in-Some.col ∷ []) c.loop-col.invariant.1 (c.in_ok-lines.ensures.best, tt),
    )

pub returns-clause-ok : goal.returns-clause-ok
returns-clause-ok g c =
    let h = c.loop-col.invariant.0 in
    let whole = items_taken c.args.cols c.into_iter-col-iterator.result c.loop-col.col-iterator c.next.new.self
    c.loop-col.yielded c.into_iter-col-iterator.ensures.into_iter_gives c.loop-col.yielded_by c.in-None.ensures.steps in
    (h.cells, ap (gathered (hands g.W.CharWidth.columns c.args.self.now)) whole ∙ h.hand, h.is)

pub returns-clause-best : goal.returns-clause-best
returns-clause-best g c =
    let whole = items_taken c.args.cols c.into_iter-col-iterator.result c.loop-col.col-iterator c.next.new.self
    c.loop-col.yielded c.into_iter-col-iterator.ensures.into_iter_gives c.loop-col.yielded_by c.in-None.ensures.steps in
    subst (Each (λ col. EndsBest g.W.CharWidth.columns col)) (sym whole) c.loop-col.invariant.1
