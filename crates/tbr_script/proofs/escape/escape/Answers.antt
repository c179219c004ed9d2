use Rattle.std.proofs.Common.{◌∙◌, sym, arith}
use Rattle.tbr_script.proofs.Texts.{no_escape}
use Rattle.tbr_script.proofs.escape.escape.Goals as goal

pub returns-in_default-clause-text : goal.returns-in_default-clause-text
returns-in_default-clause-text c =
    no_escape c.args.after.now c.next.new.self.rest.now c.in_ok-next.field-0
    (sym c.chars-rest.ensures.rest ∙ c.in_ok-next.ensures.steps.0) (λ h. omega arith) (λ h. omega arith) (λ h. omega arith) (λ h. omega arith)
