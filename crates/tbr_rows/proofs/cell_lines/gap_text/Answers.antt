use Rattle.tbr_rows.proofs.Common.{sym, subst, IfOk, IsGapText}
use Rattle.tbr_rows.proofs.CellLines.{gap_of_line}
use Rattle.tbr_rows.proofs.cell_lines.gap_text.Goals as goal

pub returns-in-Some : goal.returns-in-Some
returns-in-Some g c =
    let eq = g.T.PartialEq.eq in
    let into = c.into_tagged_line in
    subst (λ line. IfOk into.result (IsGapText eq c.args.tag.now c.args.width line)) (sym c.in-Some.is)
    (gap_of_line eq g.met.T.Eq.laws c.args.tag.now c.args.width c.in-Some.line into.result into.ensures.items into.ensures.text into.ensures.merged)
