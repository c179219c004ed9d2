use Rattle.tbr_program.proofs.Common.{refl, ◌≡◌, true, false, Err, sym, ap, ◌∙◌, decoration_of, row, after_command}
use Rattle.tbr_program.proofs.LivePrograms.{command_done}
use Rattle.tbr_program.proofs.MadeCommands.{row_unfit, row_done, row_narrow}
use Rattle.tbr_program.proofs.Results.{runs_early, runs_refused}
use Rattle.tbr_program.proofs.program.Program.add_row.Goals as goal

pub returns-then-not-row_fits : goal.returns-then-not-row_fits
returns-then-not-row_fits g c =
    let columns = g.W.CharWidth.columns in
    let decoration = decoration_of g.D.TextDecorator g.D.Annotation.Tag.tells in
    let unfit : c.row_fits.result ≡ false = let k = c.if-not-row_fits.true in cc in
    record {
      runs = runs_early (after_command columns decoration c.args.number (row c.args.collapse)) c.args.self.now _ _ refl
          (row_unfit columns decoration c.args.number _ c.args.self.now c.self.view_is c.top.result.now c.top.ensures
          c.args.collapse c.top.result.now c.top.ensures c.cells.result.now.items c.cells.ensures (sym c.row_fits.ensures ∙ unfit));
    }

pub returns-in_err-append_columns_aligned : goal.returns-in_err-append_columns_aligned
returns-in_err-append_columns_aligned g c =
    let columns = g.W.CharWidth.columns in
    let decoration = decoration_of g.D.TextDecorator g.D.Annotation.Tag.tells in
    let fit : c.row_fits.result ≡ true = let k = c.if-not-row_fits.false in cc in
    record {
      runs = runs_refused (after_command columns decoration c.args.number (row c.args.collapse)) c.args.self.now _
          c.from_residual.result c.in_err-append_columns_aligned.field-0.0 c.from_residual.ensures.1 (λ e.
          row_narrow columns decoration c.args.number _ c.args.self.now c.self.view_is c.top_mut-top.result.now
          c.top_mut-top.ensures.top c.args.collapse c.top.result.now c.top.ensures c.cells.result.now.items
          c.cells.ensures (sym c.row_fits.ensures ∙ fit)
          c.take_cells-cells.result.0.items c.take_cells-cells.ensures.cells c.deref.result.now (c.deref.ensures.value ∙ c.take_cells-cells.ensures.aligns)
          (c.append_columns_aligned.ensures.takes.too_narrow (c.in_err-append_columns_aligned.was ∙ ap Err e)));
    }

pub returns : goal.returns
returns g c =
    let columns = g.W.CharWidth.columns in
    let decoration = decoration_of g.D.TextDecorator g.D.Annotation.Tag.tells in
    let fit : c.row_fits.result ≡ true = let k = c.if-not-row_fits.false in cc in
    record {
      runs = command_done columns decoration c.args.number (row c.args.collapse) c.args.self.now _ c.requires _
          (row_done columns decoration c.args.number _ c.args.self.now c.self.view_is c.top_mut-top.result.now
          c.top_mut-top.ensures.top c.args.collapse c.top.result.now c.top.ensures c.cells.result.now.items
          c.cells.ensures (sym c.row_fits.ensures ∙ fit)
          c.take_cells-cells.result.0.items c.take_cells-cells.ensures.cells c.deref.result.now (c.deref.ensures.value ∙ c.take_cells-cells.ensures.aligns)
          c.append_columns_aligned.new.self c.take_cells-cells.new.self c.take_cells-cells.ensures.rest c.in_ok-append_columns_aligned.ensures.takes.ok);
    }
