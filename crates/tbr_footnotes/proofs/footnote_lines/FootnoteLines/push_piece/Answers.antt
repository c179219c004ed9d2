use Rattle.std.proofs.Common.{◌≡◌, ◌∷◌, [], ◌++◌, true, map, chars, ap, sym, subst, ◌∙◌, append-nil}
use Rattle.std.proofs.lemmas.Result.{on_ok_weaker}
use Rattle.tbr_model.specs.Width.{width_of_text}
use Rattle.tbr_tagged.specs.Elements.{text_items}
use Rattle.tbr_tagged.specs.View.{chars_of}
use Rattle.tbr_footnotes.specs.Cutting.{extended, with_items}
use Rattle.tbr_footnotes.specs.Footnote.{unbroken, fits_after}
use Rattle.tbr_footnotes.proofs.CutLines.{whole_text}
use Rattle.tbr_footnotes.proofs.footnote_lines.FootnoteLines.push_piece.Goals as goal

pub returns-in-Some : goal.returns-in-Some
returns-in-Some g c =
    let f = g.D.Annotation.Tag.meaning in let columns = g.W.CharWidth.columns in
    let cs = chars_of c.args.piece.s in let tag = f c.args.piece.tag ∷ [] in let old = c.args.self.now in
    let read : chars c.as_str.result.now ≡ cs = ap chars c.as_str.ensures.value in
    let under : c.in_ok-tag.tag ≡ tag = c.in_ok-tag.ensures ∙ ap (λ ts. ts ++ f c.args.piece.tag ∷ []) c.new.ensures in
    let whole = subst (λ ds. map unbroken ds ≡ ds) read c.in-Some.ensures.unbroken in
    let fits = subst (λ ds. fits_after columns old.width old.held (width_of_text columns ds) ≡ true) read c.in-Some.ensures.fits in
    on_ok_weaker c.extend.result (λ h.
    whole_text columns old c.extend.new.self tag cs whole fits (h ∙ ap (λ t. extended old (text_items cs t)) under)
    ∙ ap (with_items columns old) (sym (append-nil (text_items (map unbroken cs) tag)))) c.extend.ensures
