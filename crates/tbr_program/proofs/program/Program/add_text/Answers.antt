use Rattle.tbr_program.proofs.Common.{Err, refl, ap, ◌∙◌, decoration_of, text, ask, after_command}
use Rattle.tbr_program.proofs.MadeCommands.{request_done, request_narrow}
use Rattle.tbr_program.proofs.LivePrograms.{command_done}
use Rattle.tbr_program.proofs.Results.{runs_refused}
use Rattle.tbr_program.proofs.program.Program.add_text.Goals as goal

pub returns-in_err-add_inline_text : goal.returns-in_err-add_inline_text
returns-in_err-add_inline_text g c =
    let columns = g.W.CharWidth.columns in
    let decoration = decoration_of g.D.TextDecorator g.D.Annotation.Tag.tells in
    let request = text c.args.text.now in
    record {
      runs = λ number. runs_refused (after_command columns decoration number (ask request)) c.args.self.now _ c.from_residual.result c.in_err-add_inline_text.field-0.0 c.from_residual.ensures.1 (λ e.
          request_narrow columns decoration number _ c.args.self.now c.self.view_is c.top_mut.result.now
          c.top_mut.ensures.top request refl (c.add_inline_text.ensures.answers.too_narrow (c.in_err-add_inline_text.was ∙ ap Err e)));
    }

pub returns : goal.returns
returns g c =
    let columns = g.W.CharWidth.columns in
    let decoration = decoration_of g.D.TextDecorator g.D.Annotation.Tag.tells in
    let request = text c.args.text.now in
    record {
      runs = λ number. command_done columns decoration number (ask request) c.args.self.now _ c.requires _
          (request_done columns decoration number _ c.args.self.now c.self.view_is c.top_mut.result.now
          c.top_mut.ensures.top request refl c.add_inline_text.new.self c.self.inside.pending refl c.in_ok-add_inline_text.ensures.answers.ok);
    }
