use Rattle.tbr_program.proofs.Common.{Err, ap, ◌∙◌, subst, sym, decoration_of, link, GoesOn, after_command}
use Rattle.tbr_program.proofs.Levels.{has_top}
use Rattle.tbr_program.proofs.LivePrograms.{command_done}
use Rattle.tbr_program.proofs.MadeCommands.{link_done, link_narrow}
use Rattle.tbr_program.proofs.Results.{runs_refused}
use Rattle.tbr_program.proofs.program.Program.start_link.Goals as goal

pub start_link-requires : goal.start_link-requires
start_link-requires g c =
    let i = c.self.inside in
    has_top i.renderers i.pending i.opened (subst GoesOn (sym c.self.view_is) c.requires)

pub returns-in_err-start_link : goal.returns-in_err-start_link
returns-in_err-start_link g c =
    let columns = g.W.CharWidth.columns in
    let decoration = decoration_of g.D.TextDecorator g.D.Annotation.Tag.tells in
    record {
      runs = λ number. runs_refused (after_command columns decoration number (link c.args.target.now)) c.args.self.now
          _ c.from_residual.result c.in_err-start_link.field-0.0 c.from_residual.ensures.1 (λ e.
          link_narrow columns decoration number _ c.args.self.now c.self.view_is c.args.target.now (c.start_link.ensures.tries.too_narrow (c.in_err-start_link.was ∙ ap Err e)));
    }

pub returns : goal.returns
returns g c =
    let columns = g.W.CharWidth.columns in
    let decoration = decoration_of g.D.TextDecorator g.D.Annotation.Tag.tells in
    record {
      runs = λ number. command_done columns decoration number (link c.args.target.now) c.args.self.now _ c.requires _
          (link_done columns decoration number _ c.args.self.now c.self.view_is c.args.target.now c.start_link.new.self c.in_ok-start_link.ensures.tries.ok);
    }
