use Rattle.tbr_program.proofs.Common.{◌≡◌, Some, ap, subst, top_of}
use Rattle.tbr_program.proofs.Results.{if_ok_then}
use Rattle.tbr_program.proofs.program.Program.prefix.Goals as goal

pub returns-clause-text : goal.returns-clause-text
returns-clause-text g c =
    let r = c.top_mut-top.result.now in
    let top = subst (λ s. top_of s ≡ Some r) (ap (λ p. p.stack) c.self.view_is) c.top_mut-top.ensures.top in
    if_ok_then c.prefix_of.result (λ text h. (r, top, h)) c.prefix_of.ensures.text
