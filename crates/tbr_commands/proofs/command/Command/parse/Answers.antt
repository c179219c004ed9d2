use Rattle.std.proofs.Common.{◌≡◌, IfOk, subst, sym, ap, ◌∙◌}
use Rattle.std.specs.Option.{option_map}
use Rattle.tbr_commands.specs.Command.{command_of}
use Rattle.tbr_commands.specs.Read.{parts_read, argument_read, line_read, command_read}
use Rattle.tbr_commands.proofs.Commands.{read_utf8}
use Rattle.tbr_commands.proofs.command.Command.parse.Goals as goal

pub returns-in-Some : goal.returns-in-Some
returns-in-Some c =
    let line = c.args.line.now in
    let reads : argument_read c.in-Some.word.now c.in-Some.argument.now ≡ command_read line =
    ap (λ found. parts_read line (option_map (λ parts. (parts.0.now, parts.1.now)) found)) (sym c.in-Some.is)
    ∙ ap (parts_read line) c.split_at_space.ensures ∙ read_utf8 line_read line c.utf8.line in
    subst (λ asks. IfOk c.with_argument.result (λ found. option_map command_of found ≡ asks)) reads c.with_argument.ensures

pub returns-in-None : goal.returns-in-None
returns-in-None c =
    let line = c.args.line.now in
    c.named.ensures ∙ ap (λ found. parts_read line (option_map (λ parts. (parts.0.now, parts.1.now)) found)) (sym c.in-None.is)
    ∙ ap (parts_read line) c.split_at_space.ensures ∙ read_utf8 line_read line c.utf8.line
