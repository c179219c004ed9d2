use Rattle.tbr_runner.proofs.Common.{decoration_of}
use Rattle.tbr_program.specs.Safe.{shown_links}
use Rattle.tbr_runner.proofs.ScriptRefusals.{end_of_script}
use Rattle.tbr_program.proofs.Results.{if_err_then}
use Rattle.tbr_runner.proofs.runner.finish.Goals as goal

pub returns-clause-of_script : goal.returns-clause-of_script
returns-clause-of_script g c =
    let decoration = decoration_of g.D.TextDecorator g.D.Annotation.Tag.tells in
    if_err_then c.finish.result (λ e refuses other.
    end_of_script g.W.CharWidth.columns decoration c.args.number (shown_links c.args.raw c.args.program) e (refuses other) other) c.finish.ensures.refused
