use Rattle.tbr_renderer.proofs.Common.{List, ap, on_ok_weaker, Renderer, style_in}
use Rattle.tbr_renderer.proofs.PutRows.{row_is_put}
use Rattle.tbr_renderer.proofs.sub.SubRenderer.add_row.Goals as goal

pub returns-clause-row : goal.returns-clause-row
returns-clause-row g c =
    let same = g.D.Annotation.Tag.same in let tells = g.D.Annotation.Tag.tells in
    let style = ap (λ (r : Renderer g.row.D.Denot g.row.D-Annotation-Meaning.Denot (List g.row.D-Annotation-Meaning.Denot)). style_in r c.args.collapses) c.self.view_is in
    let (seen, is, laid) = c.in_ok-row.ensures.row in
    on_ok_weaker c.put_row.result
    (λ put. row_is_put same tells g.W.CharWidth.columns c.args.self.now c.take_hanging-hanging.new.self
    c.take_border-above.new.self c.put_row.new.self c.in_ok-row.row seen c.take_hanging-hanging.result
    c.args.columns c.take_border-above.result _ c.in_ok-tag.tag c.args.collapses
    c.take_hanging-hanging.ensures.cells c.take_hanging-hanging.ensures.rest c.take_border-above.ensures.border c.take_border-above.ensures.rest style c.in_ok-tag.ensures is laid put)
    c.put_row.ensures.row
