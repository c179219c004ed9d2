use Rattle.std.proofs.Common.{◌∙◌, ap}
use Rattle.tbr_c_lines.specs.Line.{line_of}
use Rattle.tbr_c_lines.proofs.Places.{whole_line}
use Rattle.tbr_c_lines.proofs.line.Line.new.Goals as goal

pub returns : goal.returns
returns g c =
    let es = c.in_ok-tagged.tagged in
    let shown = g.A.Annotation.shown in
    let seen =
    whole_line shown c.in_ok-to_text.field-0 c.in_ok-width.field-0 c.is_border-is_border.result
    c.in_ok-placed.field-0.items es c.in_ok-to_text.ensures c.in_ok-width.ensures c.in_ok-placed.ensures in
    (es, c.in_ok-tagged.ensures.text, c.in_ok-tagged.ensures.items, seen ∙ ap (λ b. line_of shown b es) c.is_border-is_border.ensures)
