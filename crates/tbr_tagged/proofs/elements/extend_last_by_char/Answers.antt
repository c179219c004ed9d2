use Rattle.tbr_tagged.proofs.Common.{◌-◌, ◌∙◌, ap, rules, map-set_same, nat_tests, on_err_weaker, element_of}
use Rattle.tbr_tagged.proofs.TextAfter.{extended_at}
use Rattle.tbr_tagged.proofs.elements.extend_last_by_char.Goals as goal

pub returns-clause-ok : goal.returns-clause-ok
returns-clause-ok g c = search (rules, extended_at, nat_tests, c.len-end.ensures, c.index_mut.ensures.value, c.extend_by_char.ensures.ok)

pub returns-clause-err : goal.returns-clause-err
returns-clause-err g c =
    on_err_weaker c.extend_by_char.result
    (λ h. map-set_same element_of c.args.elements.now.items (c.len-end.result - 1) c.extend_by_char.new.element
    c.index_mut.result.now (h ∙ ap element_of c.index_mut.ensures.value)) c.extend_by_char.ensures.err
