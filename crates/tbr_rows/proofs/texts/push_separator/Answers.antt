use Rattle.tbr_rows.proofs.Common.{◌≡◌, ◌++◌, subst, arith, glyph, items_of, SameItems, separator_before}
use Rattle.tbr_rows.proofs.RowTexts.{after_nothing}
use Rattle.tbr_rows.proofs.texts.push_separator.Goals as goal

pub returns-else-cell-gt0-clause-items : goal.returns-else-cell-gt0-clause-items
returns-else-cell-gt0-clause-items g c =
    let none : 0 ≡ c.args.cell = omega (arith, c.if-cell-gt0.false) in
    subst (λ n. SameItems g.T.PartialEq.eq (items_of c.args.line.now)
    (items_of c.args.line.now ++ separator_before (glyph c.args.separator c.args.tag.now) n)) none
    (after_nothing g.T.PartialEq.eq g.met.T.Eq.laws c.args.line.now)
