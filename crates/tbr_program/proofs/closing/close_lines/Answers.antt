use Rattle.tbr_program.proofs.Common.{map, sym, ◌∙◌, chars_of, decoration_of, line_seen, handed_out}
use Rattle.tbr_program.specs.Closing.{closed}
use Rattle.tbr_program.proofs.Results.{if_ok_given}
use Rattle.tbr_program.proofs.closing.close_lines.Goals as goal

pub returns-clause-lines : goal.returns-clause-lines
returns-clause-lines g c =
    let columns = g.W.CharWidth.columns in
    if_ok_given (λ lines. (map line_seen lines.items)) (handed_out columns c.in_ok-with_footnotes.field-0)
    (closed columns (decoration_of g.D.TextDecorator g.D.Annotation.Tag.tells) (map chars_of c.args.targets.items)
    c.args.renderer) c.into_shared_lines.result c.in_ok-with_footnotes.ensures.noted c.into_shared_lines.ensures.lines

pub returns-clause-too_narrow : goal.returns-clause-too_narrow
returns-clause-too_narrow g c = λ narrow. sym c.in_ok-with_footnotes.ensures.noted ∙ c.into_shared_lines.ensures.too_narrow narrow
