use Rattle.tbr_kept_lines.proofs.Common.{arith, eqb-true, nil_from_length}
use Rattle.tbr_kept_lines.proofs.kept_lines.Part.into_ended.Goals as goal

pub returns-in-Ok-clause-ended : goal.returns-in-Ok-clause-ended
returns-in-Ok-clause-ended g c = grind (arith, nil_from_length, eqb-true, c.is_empty.ensures, c.if-not-is_empty.false, c.in-Ok.ensures.ended)
