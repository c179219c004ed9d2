use Rattle.tbr_renderer.proofs.Common.{◌≡◌, ◌∙◌, ◌∷◌, ap, sym, subst, map, fold, Each, into_iter_items, on_ok_weaker, line_seen, EndsBest, and_then, changed, gathered, with_cell_below}
use Rattle.tbr_renderer.proofs.AppendedLines.{hands}
use Rattle.tbr_renderer.proofs.sub.SubRenderer.add_cells.Goals as goal

pub returns-clause-ok : goal.returns-clause-ok
returns-clause-ok g c =
    let columns = g.W.CharWidth.columns in
    let give = hands columns c.args.self.now in
    let others = into_iter_items c.next.new.self in
    let seen = (map line_seen c.in_ok-lines.lines.items) in
    let whole : c.args.cols.items ≡ c.in-Some.first ∷ others = sym c.into_iter-cols.ensures.rest ∙ c.in-Some.ensures.items in
    on_ok_weaker c.add_cells_below.result (λ h. (
      seen ∷ h.0,
      ap (gathered give) whole ∙ ap (λ o. and_then o (λ lines. changed (λ cells. lines ∷ cells) (gathered give others))) c.in_ok-lines.ensures.lines ∙ ap (changed (λ cells. seen ∷ cells)) h.1,
      h.2 ∙ ap (λ r. fold (with_cell_below columns) r h.0) c.in_ok-add_cell.ensures.lines,
    ))
    c.add_cells_below.ensures.ok

pub returns-clause-best : goal.returns-clause-best
returns-clause-best g c =
    let whole : c.args.cols.items ≡ c.in-Some.first ∷ into_iter_items c.next.new.self = sym c.into_iter-cols.ensures.rest ∙ c.in-Some.ensures.items in
    on_ok_weaker c.add_cells_below.result (λ h. subst (Each (λ col. EndsBest g.W.CharWidth.columns col)) (sym whole) (c.in_ok-lines.ensures.best, h)) c.add_cells_below.ensures.best
