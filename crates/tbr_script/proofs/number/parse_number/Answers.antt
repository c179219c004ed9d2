use Rattle.std.proofs.Common.{rules}
use Rattle.tbr_script.proofs.Reading.{number_is}
use Rattle.tbr_script.proofs.number.parse_number.Goals as goal

pub returns : goal.returns
returns c = number_is c.args.digits.now c.ok.result (search rules)
