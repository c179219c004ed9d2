use Rattle.tbr_renderer.proofs.Common.{ap, sym, ◌∙◌, pointwise, after_flush, and_then, cells_handed_out, placed, row_put, row_put_of, row_made}
use Rattle.tbr_renderer.proofs.PutRows.{still_fits}
use Rattle.tbr_renderer.proofs.OutcomeParts.{taking_done}
use Rattle.tbr_renderer.proofs.sub.SubRenderer.try_append_columns.Goals as goal

pub add_row-requires-clause-fits : goal.add_row-requires-clause-fits
add_row-requires-clause-fits g c =
    still_fits g.W.CharWidth.columns c.args.self.now c.try_flush.new.self c.args.cols.items c.in_ok-columns.columns
    c.in_ok-try_flush.ensures.tries.ok c.in_ok-columns.ensures.side_by_side c.in_ok-columns.ensures.free c.requires.fits

pub returns-clause-ok : goal.returns-clause-ok
returns-clause-ok g c =
    let columns = g.W.CharWidth.columns in
    let same = pointwise g.D.Annotation.Tag.same in
    let old = c.args.self.now in
    let flushed = c.in_ok-try_flush.ensures.tries.ok in
    let (cells, given, come) = c.in_ok-columns.ensures.cells in
    taking_done (after_flush columns) (cells_handed_out columns c.args.cols.items c.args.aligns.now) (row_made same columns c.args.collapses) old c.try_flush.new.self cells flushed given
    ∙ ap (λ o. and_then o (λ m. placed (row_put same columns c.args.collapses cells m))) flushed
    ∙ ap placed (ap (row_put_of same columns c.args.collapses c.try_flush.new.self) (sym come) ∙ c.in_ok-add_row.ensures.row)
