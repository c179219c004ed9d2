use Rattle.tbr_view.proofs.Common.{subst, on_ok_weaker, decoration_of, layout, ask, DoesIf}
use Rattle.tbr_commands.specs.declared.request.layout.Layout.TheVariants.{EndBlock}
use Rattle.tbr_view.proofs.session.Session.close_block.Goals as goal

pub returns-clause-appends : goal.returns-clause-appends
returns-clause-appends g c =
    let deco = decoration_of g.D.TextDecorator g.D.Annotation.Tag.tells in
    let appended = c.command.new.self.program in
    on_ok_weaker c.lay_out_if.result (λ h. record {
      appended = appended;
      appends = c.in_ok-command.ensures.does;
      ends = subst (λ b. DoesIf g.W.CharWidth.columns deco b appended (ask (layout EndBlock)) c.lay_out_if.new.self.program) c.stands_apart.ensures h;
    }) c.lay_out_if.ensures.does
