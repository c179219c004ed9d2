use Rattle.std.proofs.Common.{◌≡◌, ◌+◌, ap, arith}
use Rattle.tbr_model.specs.Run.{items_width}
use Rattle.tbr_model.specs.Width.{width_of_text}
use Rattle.tbr_tagged.specs.View.{chars_of}
use Rattle.tbr_footnotes.proofs.CutLines.{line_extended, holds_extended}
use Rattle.tbr_footnotes.proofs.footnote_lines.FootnoteLines.extend.Goals as goal

pub invariant_of-self-2 : goal.invariant_of-self-2
invariant_of-self-2 g c =
    let same = g.D.Annotation.Tag.same in let tells = g.D.Annotation.Tag.tells in let widths = g.W.CharWidth.columns in let piece = c.args.piece in
    let sum : c.args.columns ≡ c.self.inside.columns + width_of_text widths (chars_of piece.s) =
    omega (arith, c.requires, c.self.invariant.taken, ap (λ v. items_width widths v.held) c.self.view_is) in
    holds_extended widths same tells c.self.inside c.push_str.new.self (chars_of piece.s) piece.tag c.in_ok-push_str.ensures.items c.args.columns c.self.invariant sum
    (c.in_ok-push_str.ensures.merged c.self.invariant.merged_held)

pub returns : goal.returns
returns g c =
    let same = g.D.Annotation.Tag.same in let tells = g.D.Annotation.Tag.tells in let piece = c.args.piece in
    line_extended g.W.CharWidth.columns same tells c.self.inside c.push_str.new.self (chars_of piece.s) piece.tag c.in_ok-push_str.ensures.items c.args.self.now c.self.view_is
