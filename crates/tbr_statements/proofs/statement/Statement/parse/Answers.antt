use Rattle.std.proofs.Common.{codes, sym, ap, ◌∙◌}
use Rattle.std.proofs.lemmas.Str.Pattern.{starts_text}
use Rattle.std.specs.Option.{option_map}
use Rattle.tbr_commands.specs.Command.{command_of}
use Rattle.tbr_commands.specs.Read.{first_of}
use Rattle.tbr_commands.proofs.Commands.{read_utf8}
use Rattle.tbr_commands.proofs.Reading.{sized}
use Rattle.tbr_statements.specs.Statement.{command}
use Rattle.tbr_statements.specs.Read.{block_read, other_read}
use Rattle.tbr_statements.proofs.AutoCells.{no_command}
use Rattle.tbr_statements.proofs.statement.Statement.parse.Goals as goal

pub returns-then-starts_with-clause-read : goal.returns-then-starts_with-clause-read
returns-then-starts_with-clause-read c =
    let line = c.args.line.now in
    let begins = starts_text c.starts_with.result (codes "cell auto") line c.starts_with.ensures.cases in
    let none = no_command line (sym begins ∙ c.if-starts_with.true) in
    c.of_line.ensures.read ∙ read_utf8 block_read line c.utf8.line ∙ ap (λ found. first_of (option_map command found) (other_read line)) (sym none)

pub returns-in-Some-clause-sized : goal.returns-in-Some-clause-sized
returns-in-Some-clause-sized c =
    sized c.args.line.now (command_of c.in-Some.command) (sym c.in_ok-command.ensures ∙ ap (option_map command_of) c.in-Some.is)

pub returns-in-None-clause-read : goal.returns-in-None-clause-read
returns-in-None-clause-read c =
    let line = c.args.line.now in
    let none = sym c.in_ok-command.ensures ∙ ap (option_map command_of) c.in-None.is in
    c.of_line-in-None.ensures.read ∙ read_utf8 block_read line c.utf8.line ∙ ap (λ found. first_of (option_map command found) (other_read line)) (sym none)
