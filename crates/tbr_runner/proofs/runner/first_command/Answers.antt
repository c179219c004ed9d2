use Rattle.tbr_runner.proofs.Common.{◌∷◌, ◌∙◌, Some, None, ap, lines_of}
use Rattle.std.proofs.Common.{IfErr, subst}
use Rattle.std.specs.Str.{IsUtf8}
use Rattle.tbr_script.specs.Lines.{bytes_of}
use Rattle.tbr_runner.proofs.ShownLines.{first_shown, broken_first}
use Rattle.tbr_runner.proofs.runner.first_command.Goals as goal

pub returns-in_default-line-clause-refused : goal.returns-in_default-line-clause-refused
returns-in_default-line-clause-refused c =
    let are = c.in-Some.ensures.line ∙ ap (λ taken. bytes_of taken ∷ lines_of c.next.new.self) c.in_default-line.is in
    let broken = subst (λ taken. IfErr taken (λ bytes. IsUtf8 bytes.now → ⊥)) c.in_default-line.is c.in-Some.ensures.broken in
    λ raw columns. c.loop-line.invariant.so_far raw columns
    ∙ broken_first raw columns c.loop-line.number c.loop-line.lines c.in_default-line.field-0.now c.next.new.self broken are

pub returns-then-not-is_empty-clause-found : goal.returns-then-not-is_empty-clause-found
returns-then-not-is_empty-clause-found c =
    let are = c.in-Some.ensures.line ∙ ap (λ taken. bytes_of taken ∷ lines_of c.next.new.self) c.in-Ok.is in
    λ raw columns. c.loop-line.invariant.so_far raw columns
    ∙ first_shown raw columns c.loop-line.number c.loop-line.lines c.in-Ok.line.now c.next.new.self (Some c.in-Some-parse.opening) c.if-not-is_empty.ensures are c.in-Some-parse.ensures.read

pub returns-in_default-parse-clause-refused : goal.returns-in_default-parse-clause-refused
returns-in_default-parse-clause-refused c =
    let are = c.in-Some.ensures.line ∙ ap (λ taken. bytes_of taken ∷ lines_of c.next.new.self) c.in-Ok.is in
    λ raw columns. c.loop-line.invariant.so_far raw columns
    ∙ first_shown raw columns c.loop-line.number c.loop-line.lines c.in-Ok.line.now c.next.new.self None c.if-not-is_empty.ensures are c.in_default-parse.ensures.read
