use Rattle.tbr_runner.proofs.Common.{decoration_of, lines_of}
use Rattle.tbr_program.proofs.Results.{if_ok_then, if_err_then}
use Rattle.tbr_runner.proofs.ShownLines.{shown_same}
use Rattle.tbr_runner.proofs.runner.run_under.Goals as goal

pub returns-clause-told : goal.returns-clause-told
returns-clause-told g c =
    let decoration = decoration_of g.D.TextDecorator g.D.Annotation.Tag.tells in
    if_ok_then c.run_lines.result (λ told.
    shown_same c.args.raw g.W.CharWidth.columns decoration c.args.number (lines_of c.args.lines) c.in_ok-program.program _ _ c.in_ok-program.ensures.program) c.run_lines.ensures.told

pub returns-clause-refusal : goal.returns-clause-refusal
returns-clause-refusal g c =
    let decoration = decoration_of g.D.TextDecorator g.D.Annotation.Tag.tells in
    if_err_then c.run_lines.result (λ e h other.
    shown_same c.args.raw g.W.CharWidth.columns decoration c.args.number (lines_of c.args.lines) c.in_ok-program.program _ _ c.in_ok-program.ensures.program (h other)) c.run_lines.ensures.refusal
