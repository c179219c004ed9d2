use Rattle.std.proofs.Common.{rules}
use Rattle.tbr_script.proofs.Reading.{byte_is}
use Rattle.tbr_script.proofs.number.parse_byte.Goals as goal

pub returns : goal.returns
returns c = byte_is c.args.digits.now c.ok.result (search rules)
