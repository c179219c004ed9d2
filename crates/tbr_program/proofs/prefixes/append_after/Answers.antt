use Rattle.tbr_program.proofs.Common.{rules}
use Rattle.tbr_program.proofs.prefixes.append_after.Goals as goal

pub returns : goal.returns
returns g c = search (rules, c.append_prefixed.ensures.takes.ok, c.append_prefixed.ensures.takes.too_narrow, c.as_str.ensures.value, c.as_str-2.ensures.value)
