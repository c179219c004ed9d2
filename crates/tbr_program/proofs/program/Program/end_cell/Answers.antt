use Rattle.tbr_program.proofs.Common.{refl, ◌≡◌, false, decoration_of, end_cell, after_command}
use Rattle.tbr_program.proofs.LivePrograms.{command_done}
use Rattle.tbr_program.proofs.MadeCommands.{some_opened, no_cell, cell_waits, cell_done}
use Rattle.tbr_program.proofs.Results.{runs_early}
use Rattle.tbr_program.proofs.program.Program.end_cell.Goals as goal

pub returns-in_default : goal.returns-in_default
returns-in_default g c =
    let columns = g.W.CharWidth.columns in
    let decoration = decoration_of g.D.TextDecorator g.D.Annotation.Tag.tells in
    record {
      runs = runs_early (after_command columns decoration c.args.number end_cell) c.args.self.now _ _ refl
          (no_cell columns decoration c.args.number _ c.args.self.now c.self.view_is c.in_default.ensures.none);
    }

pub returns-then-has_cells : goal.returns-then-has_cells
returns-then-has_cells g c =
    let columns = g.W.CharWidth.columns in
    let decoration = decoration_of g.D.TextDecorator g.D.Annotation.Tag.tells in
    record {
      runs = runs_early (after_command columns decoration c.args.number end_cell) c.args.self.now _ _ refl
          (cell_waits columns decoration c.args.number _ c.args.self.now c.self.view_is c.in-Some.span c.in-Some.align
          c.in-Some.ensures.found (λ none. let h : c.has_cells.result ≡ false = c.has_cells.ensures.1 none in cc));
    }

pub close-inside-requires-clause-opened : goal.close-inside-requires-clause-opened
close-inside-requires-clause-opened g c = some_opened _ c.args.self.now c.self.view_is _ c.in-Some.ensures.found

pub returns : goal.returns
returns g c =
    let columns = g.W.CharWidth.columns in
    let decoration = decoration_of g.D.TextDecorator g.D.Annotation.Tag.tells in
    record {
      runs = command_done columns decoration c.args.number end_cell c.args.self.now _ c.requires _
          (cell_done columns decoration c.args.number _ c.args.self.now c.self.view_is c.in-Some.span c.in-Some.align
          c.in-Some.ensures.found (c.has_cells.ensures.0 (cc)) c.close-inside.result c.close-inside.new.self _
          c.add_cell.new.self c.close-inside.ensures.closes c.self-2.view_is c.in_ok-add_cell.ensures.waits);
    }
