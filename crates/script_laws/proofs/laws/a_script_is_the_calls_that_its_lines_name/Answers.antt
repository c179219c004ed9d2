use Rattle.script_laws.proofs.BlocksOfLines.{lines_give, script_gives}
use Rattle.script_laws.proofs.LinesOnStack.{lines_do}
use Rattle.script_laws.proofs.laws.a_script_is_the_calls_that_its_lines_name.Goals as goal

pub returns : goal.returns
returns g c = record { lines = lines_give; script = script_gives; stack = lines_do }
