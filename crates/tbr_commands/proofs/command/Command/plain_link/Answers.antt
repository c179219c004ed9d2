use Rattle.std.proofs.Common.{◌≡◌, ◌++◌, Some, codes, sym, ap, ◌∙◌}
use Rattle.std.specs.Option.{option_and_then}
use Rattle.tbr_commands.specs.Command.{link}
use Rattle.tbr_commands.specs.Read.{command_read, as_written, plain_read}
use Rattle.tbr_commands.proofs.Commands.{plain_link, if_written}
use Rattle.tbr_commands.proofs.Openings.{no_word}
use Rattle.tbr_commands.proofs.command.Command.plain_link.Goals as goal

pub returns-in_err-strip_prefix-clause-value : goal.returns-in_err-strip_prefix-clause-value
returns-in_err-strip_prefix-clause-value c =
    rw c.from_residual.ensures (ap (option_and_then as_written) (no_word (codes "link ") c.args.line.now c.in_err-strip_prefix.ensures.cases))

pub returns-clause-value : goal.returns-clause-value
returns-clause-value c =
    let found = c.in_ok-strip_prefix.ensures.cases in
    let after = found.1.1 ∙ ap (λ bs. codes "link " ++ bs) (sym found.2) in
    c.as_written.ensures ∙ ap (plain_read (codes "link ")) (sym after)

pub returns-clause-asked : goal.returns-clause-asked
returns-clause-asked c =
    let writing = c.in_ok-strip_prefix.field-0 in
    let found = c.in_ok-strip_prefix.ensures.cases in
    let after = found.1.1 ∙ ap (λ bs. codes "link " ++ bs) (sym found.2) in
    if_written (λ t. command_read c.args.line.now ≡ Some (link t)) c.as_written.result writing.now c.as_written.ensures (λ t e. plain_link c.args.line.now writing.now t e after)
