use Rattle.tbr_renderer.proofs.Common.{decoration_of, handed_out, gathered}
use Rattle.tbr_renderer.specs.Appended.{after_cells}
use Rattle.tbr_renderer.proofs.KeptRefusals.{settled_takes}
use Rattle.tbr_renderer.proofs.sub.calls.SubRendererRenderer.append_vert_row.Goals as goal

pub returns-clause-takes : goal.returns-clause-takes
returns-clause-takes g c =
    let columns = g.W.CharWidth.columns in
    let tried = c.try_append_vert_row-done.ensures in
    settled_takes columns (decoration_of g.D.TextDecorator g.D.Annotation.Tag.tells) c.try_append_vert_row-done.new.self
    c.in_ok-refusal.ensures c.keep.ensures.result c.keep.ensures.ok c.keep.ensures.failed
    (gathered (λ col. handed_out columns col) c.args.cols.items) (after_cells columns)
    tried.ok tried.too_narrow tried.two_columns tried.settings
