use Rattle.tbr_view.proofs.Common.{None, refl, sym, subst, ◌∙◌}
use Rattle.tbr_view.specs.Session.{TellsRow}
use Rattle.tbr_view.proofs.session.Session.note_row.Goals as goal

pub returns-clause-warns : goal.returns-clause-warns
returns-clause-warns g c =
    let self = c.args.self.now in
    subst (λ p. TellsRow p c.args.number self.set_width None self.warnings.items c.push.new.self.items) (sym c.in-Some.is ∙ c.passed.ensures)
    (refl, c.in_ok-problem.problem, c.in_ok-problem.ensures, c.in_ok-push.ensures.items)
