use Rattle.tbr_program.proofs.Common.{Err, ap, ◌∙◌, decoration_of, vertical_row, after_command}
use Rattle.tbr_program.proofs.LivePrograms.{command_done}
use Rattle.tbr_program.proofs.MadeCommands.{vertical_done, vertical_narrow}
use Rattle.tbr_program.proofs.Results.{runs_refused}
use Rattle.tbr_program.proofs.program.Program.add_vertical_row.Goals as goal

pub returns-in_err-append_vert_row : goal.returns-in_err-append_vert_row
returns-in_err-append_vert_row g c =
    let columns = g.W.CharWidth.columns in
    let decoration = decoration_of g.D.TextDecorator g.D.Annotation.Tag.tells in
    record {
      runs = λ number. runs_refused (after_command columns decoration number vertical_row) c.args.self.now _
          c.from_residual-in_err-append_vert_row.result c.in_err-append_vert_row.field-0.0 c.from_residual-in_err-append_vert_row.ensures.1 (λ e.
          vertical_narrow columns decoration number _ c.args.self.now c.self.view_is c.top_mut.result.now c.top_mut.ensures.top c.in_ok-cells.cells.items c.in_ok-cells.ensures.cells
          (c.append_vert_row.ensures.takes.too_narrow (c.in_err-append_vert_row.was ∙ ap Err e)));
    }

pub returns : goal.returns
returns g c =
    let columns = g.W.CharWidth.columns in
    let decoration = decoration_of g.D.TextDecorator g.D.Annotation.Tag.tells in
    record {
      runs = λ number. command_done columns decoration number vertical_row c.args.self.now _ c.requires _
          (vertical_done columns decoration number _ c.args.self.now c.self.view_is c.top_mut.result.now c.top_mut.ensures.top c.in_ok-cells.cells.items c.in_ok-cells.ensures.cells
          c.append_vert_row.new.self c.take_renderers.new.self c.in_ok-cells.ensures.rest c.in_ok-append_vert_row.ensures.takes.ok);
    }
