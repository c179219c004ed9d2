use Rattle.script_laws.proofs.Common.{rules}
use Rattle.tbr_commands.proofs.Reading.{command_is_read, read_command, opening_is_read, read_opening}
use Rattle.script_laws.proofs.laws.a_line_is_read_as_the_command_that_it_is.Goals as goal

pub returns : goal.returns
returns c = search (rules, command_is_read, read_command, opening_is_read, read_opening)
