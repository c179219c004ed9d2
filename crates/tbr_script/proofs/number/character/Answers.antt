use Rattle.std.proofs.Common.{rules}
use Rattle.tbr_script.proofs.Reading.{character_is}
use Rattle.tbr_script.proofs.number.character.Goals as goal

pub returns-in_err-code : goal.returns-in_err-code
returns-in_err-code c = character_is c.args.digits.now c.from_residual.result (search rules)

pub returns : goal.returns
returns c = character_is c.args.digits.now c.from_u32.result (search rules)
