use Rattle.tbr_view.proofs.Common.{ap, sym, ◌∙◌, decoration_of, TableScript}
use Rattle.tbr_view.specs.Tables.{drawing}
use Rattle.tbr_view.proofs.session.Session.draw_ended.Goals as goal

pub returns-clause-draws : goal.returns-clause-draws
returns-clause-draws g c =
    let made = drawing g.W.CharWidth.columns (decoration_of g.D.TextDecorator g.D.Annotation.Tag.tells) in
    ap (λ (t : TableScript). made t c.args.self.now.program) (sym c.in_ok-add_step.ensures) ∙ c.in_ok-draw.ensures.draws
