use Rattle.tbr_c.proofs.Common.{unicode_columns, decoration_of}
use Rattle.std.proofs.lemmas.List.{nil_from_length}
use Rattle.tbr_program.proofs.Results.{if_ok_then}
use Rattle.tbr_c.proofs.EndedLines.{lines_end, narrow_end}
use Rattle.tbr_c.proofs.page.Filled.into_lines.Goals as goal

pub finish_lines-requires-clause-opened : goal.finish_lines-requires-clause-opened
finish_lines-requires-clause-opened g c = nil_from_length c.args.self.program.opened c.requires.opened

pub finish_lines-requires-clause-cells : goal.finish_lines-requires-clause-cells
finish_lines-requires-clause-cells g c =
    let p = c.args.self.program in nil_from_length p.pending.cells c.requires.cells

pub returns-clause-lines : goal.returns-clause-lines
returns-clause-lines g c =
    let p = c.args.self.program in
    if_ok_then c.finish_lines.result
    (λ lines. lines_end unicode_columns (decoration_of g.D.TextDecorator g.D.Annotation.Tag.tells) p
    (nil_from_length p.opened c.requires.opened) (nil_from_length p.pending.cells c.requires.cells)
    c.args.self.raw lines.items)
    c.finish_lines.ensures.lines

pub returns-clause-too_narrow : goal.returns-clause-too_narrow
returns-clause-too_narrow g c = λ narrow.
    let p = c.args.self.program in
    narrow_end unicode_columns (decoration_of g.D.TextDecorator g.D.Annotation.Tag.tells) p
    (nil_from_length p.opened c.requires.opened) (nil_from_length p.pending.cells c.requires.cells)
    c.args.self.raw (c.finish_lines.ensures.too_narrow narrow)
