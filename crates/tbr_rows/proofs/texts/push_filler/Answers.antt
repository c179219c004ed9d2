use Rattle.tbr_rows.proofs.Common.{◌∙◌, on_ok_weaker}
use Rattle.tbr_border.specs.Border.{lines_above}
use Rattle.tbr_rows.proofs.RowTexts.{text_after}
use Rattle.tbr_rows.proofs.texts.push_filler.Goals as goal

pub returns-clause-items : goal.returns-clause-items
returns-clause-items g c =
    let eq = g.T.PartialEq.eq in
    let tag = c.args.tag.now in
    let copied = g.met.T.Eq.laws.symm _ _ ∙ g.met.T.Tag.copies_equal _ _ c.in_ok-tag.ensures.cases in
    let cs = lines_above c.in-Some.border in
    rw c.in-Some.is (on_ok_weaker c.push_str.result
    (text_after eq g.met.T.Eq.laws c.args.line.now c.push_str.new.self cs _ tag c.in_ok-tag.tag c.in_ok-s.ensures copied)
    c.push_str.ensures.items)
