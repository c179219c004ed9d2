use Rattle.std.proofs.Common.{◌≡◌, ◌+◌, ◌∷◌, [], ◌∙◌, ap, unwrap_or, arith}
use Rattle.tbr_model.specs.Width.{width_of_text}
use Rattle.tbr_footnotes.proofs.CutLines.{line_extended, holds_extended}
use Rattle.tbr_footnotes.proofs.footnote_lines.FootnoteLines.append.Goals as goal

pub invariant_of-self-2 : goal.invariant_of-self-2
invariant_of-self-2 g c =
    let same = g.D.Annotation.Tag.same in let tells = g.D.Annotation.Tag.tells in let widths = g.W.CharWidth.columns in
    let one : c.unwrap_or-more.result ≡ unwrap_or (widths c.args.c) 0 = c.unwrap_or-more.ensures ∙ ap (λ o. unwrap_or o 0) c.width.ensures in
    let sum : c.in-Some.columns ≡ c.self.inside.columns + width_of_text widths (c.args.c ∷ []) = omega (arith, one) in
    holds_extended widths same tells c.self.inside c.push_char.new.self (c.args.c ∷ []) c.args.tag.now c.in_ok-push_char.ensures.items c.in-Some.columns c.self.invariant sum
    (c.in_ok-push_char.ensures.merged c.self.invariant.merged_held)

pub returns : goal.returns
returns g c =
    let same = g.D.Annotation.Tag.same in let tells = g.D.Annotation.Tag.tells in
    line_extended g.W.CharWidth.columns same tells c.self.inside c.push_char.new.self (c.args.c ∷ []) c.args.tag.now c.in_ok-push_char.ensures.items c.args.self.now c.self.view_is
