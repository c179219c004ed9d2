use Rattle.tbr_rows.proofs.Common.{map, ap, sym, ◌∙◌, [], ◌∷◌, append-nil, take_all, look, row_fits, spot_of, spots_from, fits_with}
use Rattle.tbr_rows.proofs.Fitted.{no_line, one_more_told, spots_are}
use Rattle.tbr_rows.proofs.columns.Columns.fits.Goals as goal

pub loop-cell-preserved : goal.loop-cell-preserved
loop-cell-preserved g c =
    let cell = c.cell-item.result in
    one_more_told look (fits_with c.loop-cell.fitting) _ (λ ws. row_fits c.args.hanging.now (spots_from 0 ws)) c.deref-cell-items.result.now c.loop-cell.cell-index cell
    c.loop-cell-test.true c.cell-item.is c.loop-cell.invariant
    (λ more. c.add.ensures more ∙ ap (λ blank. fits_with c.loop-cell.fitting ((cell.width, blank) ∷ more)) (c.is_empty.ensures ∙ no_line cell.lines))

pub returns : goal.returns
returns g c =
    let hanging = c.args.hanging.now in
    let own = c.self.inside.cells.items in
    let all = take_all c.loop-cell.cell-index c.deref-cell-items.result.now c.loop-cell-test.false ∙ c.deref-cell-items.ensures.value in
    c.fits.ensures ∙ c.loop-cell.invariant []
    ∙ ap (λ ws. row_fits hanging (spots_from 0 ws)) (append-nil _ ∙ ap (map look) all)
    ∙ ap (row_fits hanging) (sym (spots_are own c.self.invariant))
    ∙ ap (λ cs. row_fits hanging (map spot_of cs)) c.self.view_is
