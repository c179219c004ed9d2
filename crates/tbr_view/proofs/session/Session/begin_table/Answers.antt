use Rattle.tbr_view.proofs.Common.{ap, ◌∙◌, on_ok_weaker, TableScript, with_bare, Known, Levels, openers, kept}
use Rattle.tbr_tables.specs.declared.step.Step.TheVariants as step
use Rattle.tbr_view.proofs.States.{openers_push}
use Rattle.tbr_view.proofs.session.Session.begin_table.Goals as goal

pub returns-clause-begins : goal.returns-clause-begins
returns-clause-begins g c =
    let self = c.args.self.now in
    let levels = ap (λ (l : Levels). openers l.inside.items) c.add_step.ensures.levels
    ∙ ap (λ (k : Known). openers k.inside) c.in_ok-enter.ensures ∙ openers_push self.levels.inside.items _ in
    on_ok_weaker c.add_step.result (λ h. record {
      program = c.add_step.ensures.program;
      levels = levels;
      tables = h ∙ ap (λ (x : TableScript). kept (with_bare g.W.CharWidth.columns step.Table x) self.tables) c.in_ok-table.ensures;
    }) c.add_step.ensures.tables
