use Rattle.tbr_renderer.proofs.Common.{map, ap, ◌∙◌, [], ◌∷◌, append-nil, row_fits, spots_from, fits_with, looks}
use Rattle.std.proofs.lemmas.List.{take_all}
use Rattle.tbr_rows.proofs.Fitted.{one_more_told}
use Rattle.tbr_renderer.proofs.sub.SubRenderer.row_fits.Goals as goal

pub loop-col-preserved : goal.loop-col-preserved
loop-col-preserved g c =
    let col = c.loop-col-item.result in
    one_more_told (looks g.W.CharWidth.columns) (fits_with c.loop-col.fitting) _
    (λ ws. row_fits c.args.self.now.hanging (spots_from 0 ws)) c.deref-col-items.result.now c.loop-col.col-index
    col c.loop-col-test.true c.loop-col-item.is c.loop-col.invariant
    (λ more. c.add.ensures more ∙ ap (λ n. fits_with c.loop-col.fitting ((n, c.is_blank.result) ∷ more)) c.width.ensures
    ∙ ap (λ blank. fits_with c.loop-col.fitting ((col.0.width, blank) ∷ more)) c.is_blank.ensures)

pub returns : goal.returns
returns g c =
    let all = take_all c.loop-col.col-index c.deref-col-items.result.now c.loop-col-test.false ∙ c.deref-col-items.ensures.value in
    c.fits.ensures ∙ c.loop-col.invariant [] ∙ ap (λ ws. row_fits c.args.self.now.hanging (spots_from 0 ws)) (append-nil _ ∙ ap (map (looks g.W.CharWidth.columns)) all)
