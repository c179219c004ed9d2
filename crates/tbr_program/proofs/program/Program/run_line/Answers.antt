use Rattle.tbr_program.proofs.Common.{sym, ap, ◌∙◌, option_map, decoration_of, ask, command_of, text, after_command}
use Rattle.tbr_commands.specs.Command.{link}
use Rattle.tbr_commands.proofs.Reading.{sized}
use Rattle.tbr_program.specs.Commands.{after_shown_line}
use Rattle.tbr_program.specs.Safe.{shown_command}
use Rattle.tbr_program.proofs.Results.{runs_as}
use Rattle.tbr_program.proofs.CommandLines.{commanded}
use Rattle.tbr_program.proofs.Safe.{requested, linked}
use Rattle.tbr_program.proofs.program.Program.run_line.Goals as goal

pub returns-in-Some : goal.returns-in-Some
returns-in-Some g c =
    let columns = g.W.CharWidth.columns in
    let decoration = decoration_of g.D.TextDecorator g.D.Annotation.Tag.tells in
    let request = text c.in-Some.text.now in
    let here = c.args.self.now in
    let line = c.args.line.now in
    record {
      runs = runs_as (after_command columns decoration c.args.number (ask request)) (after_shown_line columns decoration c.args.raw c.args.number line) c.args.self.now _ c.add_text.result
          (ap (λ k. after_command columns decoration c.args.number k here) (requested c.args.raw request)
          ∙ commanded columns decoration c.args.raw c.args.number here line (ask request) c.if-is_empty.ensures c.in-Some.ensures.asked)
          (c.add_text.ensures.runs c.args.number);
    }

pub returns-in-Some-plain_link : goal.returns-in-Some-plain_link
returns-in-Some-plain_link g c =
    let columns = g.W.CharWidth.columns in
    let decoration = decoration_of g.D.TextDecorator g.D.Annotation.Tag.tells in
    let command = link c.in-Some-plain_link.target.now in
    let here = c.args.self.now in
    let line = c.args.line.now in
    record {
      runs = runs_as (after_command columns decoration c.args.number command) (after_shown_line columns decoration c.args.raw c.args.number line) here _ c.start_link.result
          (ap (λ k. after_command columns decoration c.args.number k here)
          (linked c.args.raw c.in-Some-plain_link.target.now)
          ∙ commanded columns decoration c.args.raw c.args.number here line command c.if-is_empty.ensures c.in-Some-plain_link.ensures.asked)
          (c.start_link.ensures.runs c.args.number);
    }

pub returns-in-Some-2 : goal.returns-in-Some-2
returns-in-Some-2 g c =
    let columns = g.W.CharWidth.columns in
    let decoration = decoration_of g.D.TextDecorator g.D.Annotation.Tag.tells in
    let command = command_of c.in-Some-2.command in
    let line = c.args.line.now in
    record {
      runs = runs_as (after_command columns decoration c.args.number (shown_command c.args.raw command))
          (after_shown_line columns decoration c.args.raw c.args.number line) c.args.self.now c.run_shown.new.self c.run_shown.result
          (commanded columns decoration c.args.raw c.args.number c.args.self.now line command c.if-is_empty.ensures
          (sym c.in_ok-command.ensures ∙ ap (option_map command_of) c.in-Some-2.is)) c.run_shown.ensures.runs;
    }

pub run_shown-requires-clause-sized : goal.run_shown-requires-clause-sized
run_shown-requires-clause-sized g c = sized c.args.line.now (command_of c.in-Some-2.command) (sym c.in_ok-command.ensures ∙ ap (option_map command_of) c.in-Some-2.is)
