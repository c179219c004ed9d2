use Rattle.tbr_rows.proofs.Common.{◌≡◌, ◌∷◌, ap, sym, ◌∙◌, subst, on_ok_weaker, items_of, SameItems, items_under}
use Rattle.tbr_rows.proofs.RowTexts.{after_same}
use Rattle.tbr_rows.specs.CellLines.{lines_kept}
use Rattle.tbr_rows.proofs.CellLines.{first_text, text_moved}
use Rattle.tbr_rows.proofs.cell_lines.CellLines.move_first.Goals as goal

pub returns-in-InText-clause-items : goal.returns-in-InText-clause-items
returns-in-InText-clause-items g c = λ l rest e.
    let eq = g.T.PartialEq.eq in
    let f = first_text eq c.in-InText.lines l rest (sym (ap (lines_kept eq) c.in-InText.is) ∙ c.self.view_is ∙ e) in
    on_ok_weaker c.move_line.result (text_moved eq g.met.T.Eq.laws (items_of c.args.line.now) (items_of c.move_line.new.line) f.0 l c.args.tag.now f.3) (c.move_line.ensures.items f.0 f.1 f.2)

pub returns-clause-items : goal.returns-clause-items
returns-clause-items g c = λ l rest e.
    let eq = g.T.PartialEq.eq in
    let laws = g.met.T.Eq.laws in
    let tag = c.args.tag.now in
    let flat = items_of c.in_ok-into_tagged_line_with.field-0 in
    let first : c.in-Some.first ∷ c.pop_front.new.self.items ≡ l ∷ rest = sym (sym c.self.view_is ∙ ap (lines_kept eq) c.in-Each.is ∙ c.in-Some.ensures.items) ∙ e in
    let is : c.in-Some.first ≡ l = cc in
    on_ok_weaker c.append.result
    (after_same eq laws c.args.line.now c.append.new.self flat (items_under tag l)
    (subst (λ l. SameItems eq flat (items_under tag l)) is c.in_ok-into_tagged_line_with.ensures.items)) c.append.ensures.items
