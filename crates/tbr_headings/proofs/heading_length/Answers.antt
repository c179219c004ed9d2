use Rattle.std.proofs.Common.{◌+◌, length, ap, sym, ◌∙◌}
use Rattle.std.specs.Prelude.{encode_utf8_all}
use Rattle.tbr_headings.specs.Headings.{marks}
use Rattle.tbr_headings.proofs.Marks.{marked_bytes, is_sum}
use Rattle.tbr_headings.proofs.heading_length.Goals as goal

pub returns : goal.returns
returns g c = λ d.
    let level = c.args.level in
    let text = c.are_marked.ensures d level ∙ ap (λ b. marks b level) c.if-not-are_marked.false in
    let takes = ap (λ cs. length (encode_utf8_all cs)) text ∙ marked_bytes level in
    is_sum c.checked_add.result (level + 1) _ c.checked_add.ensures (sym takes)
