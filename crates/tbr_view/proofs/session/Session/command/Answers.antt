use Rattle.tbr_view.proofs.Common.{Ok, decoration_of, command_of}
use Rattle.tbr_program.proofs.CommandParts.{any_line}
use Rattle.tbr_view.proofs.session.Session.command.Goals as goal

pub returns-in-Ok-clause-does : goal.returns-in-Ok-clause-does
returns-in-Ok-clause-does g c =
    let next = c.run.new.self in
    any_line g.W.CharWidth.columns (decoration_of g.D.TextDecorator g.D.Annotation.Tag.tells) c.args.number 0
    c.args.self.now.program (Ok next) tt (command_of c.args.command.now) c.in-Ok.ensures.runs.ok
