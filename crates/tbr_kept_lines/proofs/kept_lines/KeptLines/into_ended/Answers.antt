use Rattle.tbr_kept_lines.proofs.Common.{◌++◌, ap, sym, ◌∙◌, arith, eqb-true}
use Rattle.std.specs.Option.{option_to_list}
use Rattle.tbr_kept_lines.proofs.KeptParts.{part_alone}
use Rattle.tbr_kept_lines.proofs.kept_lines.KeptLines.into_ended.Goals as goal

pub returns-in-Ok-clause-ended : goal.returns-in-Ok-clause-ended
returns-in-Ok-clause-ended g c =
    let k = c.self.inside in
    c.in-Ok.ensures.ended
    ∙ part_alone k.above.items c.pop.new.self.items k.last.items c.in-Some.part
    (c.pop.ensures.items ∙ ap (λ o. c.pop.new.self.items ++ option_to_list o) c.in-Some.is)
    (omega (arith, c.if-len-ne1.false, c.len.ensures, k.above.ok.0))
    (sym k.last.ok.0 ∙ eqb-true _ 0 (sym c.is_empty.ensures ∙ c.if-not-is_empty.false)) ∙ c.self.view_is
