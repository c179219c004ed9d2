use Rattle.tbr_view.proofs.Common.{◌≡◌, rules, true, sym, ◌∙◌, subst}
use Rattle.tbr_view.specs.Session.{TellsLoss}
use Rattle.tbr_view.proofs.session.Session.note_losses.Goals as goal

pub returns-clause-lost : goal.returns-clause-lost
returns-clause-lost g c =
    let is : c.loses_lines.result ≡ true = search rules in
    let self = c.args.self.now in
    subst (λ b. TellsLoss b c.args.number self.levels.notes.spanning self.lost.items c.push.new.self.items) (sym is ∙ c.loses_lines.ensures)
    (c.in_ok-problem.problem, c.in_ok-problem.ensures, c.in_ok-push.ensures.items)
