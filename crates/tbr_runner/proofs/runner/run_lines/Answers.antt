use Rattle.tbr_runner.proofs.Common.{◌≡◌, ◌∷◌, Ok, Err, NotACommand, ap, arith, ◌∙◌, rules, decoration_of, lines_of}
use Rattle.std.proofs.Common.{IfErr, subst}
use Rattle.std.specs.Str.{IsUtf8}
use Rattle.std.proofs.lemmas.Result.{err_from_is_err_and}
use Rattle.tbr_script.specs.Lines.{bytes_of}
use Rattle.tbr_runner.proofs.ShownLines.{at_shown_end, broken_refused, shown_line_made}
use Rattle.tbr_runner.proofs.ScriptRefusals.{if_err_is, shown_line_of_script}
use Rattle.tbr_runner.proofs.runner.run_lines.Goals as goal

pub returns-in_default-line-clause-refusal : goal.returns-in_default-line-clause-refusal
returns-in_default-line-clause-refusal g c =
    let columns = g.W.CharWidth.columns in let decoration = decoration_of g.D.TextDecorator g.D.Annotation.Tag.tells in
    let here = c.loop-line.program in let line = c.in_default-line.field-0.now in let after = c.next.new.self in
    let are = c.in-Some.ensures.line ∙ ap (λ taken. bytes_of taken ∷ lines_of after) c.in_default-line.is in
    let broken = subst (λ taken. IfErr taken (λ bytes. IsUtf8 bytes.now → ⊥)) c.in_default-line.is c.in-Some.ensures.broken in
    let refused = broken_refused c.args.raw columns decoration c.loop-line.number here line broken in
    λ other. c.loop-line.invariant.so_far ∙ shown_line_made c.args.raw columns decoration c.loop-line.number here c.loop-line.lines line after (Err (NotACommand c.loop-line.number)) are refused

pub returns-in_err-run_line-clause-refusal : goal.returns-in_err-run_line-clause-refusal
returns-in_err-run_line-clause-refusal g c =
    let columns = g.W.CharWidth.columns in let decoration = decoration_of g.D.TextDecorator g.D.Annotation.Tag.tells in
    let here = c.loop-line.program in let line = c.in-Ok.line.now in let after = c.next.new.self in
    let are = c.in-Some.ensures.line ∙ ap (λ taken. bytes_of taken ∷ lines_of after) c.in-Ok.is in
    let p = err_from_is_err_and c.from_residual.result c.from_residual.ensures.1 in
    let e = c.in_err-run_line.field-0.0 in
    let same : c.from_residual.result ≡ Err e = cc (p.1, p.2) in
    if_err_is _ c.from_residual.result e same (λ found. c.loop-line.invariant.so_far
    ∙ shown_line_made c.args.raw columns decoration c.loop-line.number here c.loop-line.lines line after (Err e) are (c.in_err-run_line.ensures.runs.refused found))

pub loop-line-preserved : goal.loop-line-preserved
loop-line-preserved g c =
    let columns = g.W.CharWidth.columns in let decoration = decoration_of g.D.TextDecorator g.D.Annotation.Tag.tells in
    let here = c.loop-line.program in let line = c.in-Ok.line.now in let after = c.next.new.self in
    let are = c.in-Some.ensures.line ∙ ap (λ taken. bytes_of taken ∷ lines_of after) c.in-Ok.is in
    let next = c.run_line.new.self in
    record {
      so_far = c.loop-line.invariant.so_far ∙ shown_line_made c.args.raw columns decoration c.loop-line.number here c.loop-line.lines line after (Ok next) are c.in_ok-run_line.ensures.runs.ok;
      bound = omega (arith, c.loop-line.invariant.bound, c.in-Some.ensures.shorter);
      goes_on = c.in_ok-run_line.ensures.runs.goes_on;
    }

pub returns-clause-told : goal.returns-clause-told
returns-clause-told g c = search (rules, at_shown_end, c.loop-line.invariant.so_far, c.in_default.ensures)

pub returns-in_err-run_line-clause-of_script : goal.returns-in_err-run_line-clause-of_script
returns-in_err-run_line-clause-of_script g c =
    let p = err_from_is_err_and c.from_residual.result c.from_residual.ensures.1 in
    let e = c.in_err-run_line.field-0.0 in
    let same : c.from_residual.result ≡ Err e = cc (p.1, p.2) in
    if_err_is _ c.from_residual.result e same (λ other.
    shown_line_of_script g.W.CharWidth.columns (decoration_of g.D.TextDecorator g.D.Annotation.Tag.tells)
    c.loop-line.number c.args.raw c.loop-line.program c.in-Ok.line.now e (c.in_err-run_line.ensures.runs.refused other) other)
