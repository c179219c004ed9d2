use Rattle.tbr_renderer.proofs.Common.{List, ◌≡◌, ◌∙◌, true, ap, sym, on_ok_weaker, shown, items_of, items_told, Renderer}
use Rattle.tbr_renderer.proofs.JoinedLines.{border_drawn}
use Rattle.tbr_renderer.proofs.sub.SubRenderer.add_border.Goals as goal

pub returns-clause-border : goal.returns-clause-border
returns-clause-border g c =
    let same = g.D.Annotation.Tag.same in let tells = g.D.Annotation.Tag.tells in
    let pads : c.args.self.now.options.pad_block_width ≡ true =
    ap (λ (r : Renderer g.row.D.Denot g.row.D-Annotation-Meaning.Denot (List g.row.D-Annotation-Meaning.Denot)).
    r.options.pad_block_width) (sym c.self.view_is) ∙ c.if-not-self.false in
    on_ok_weaker c.push_line-2.result
    (border_drawn g.W.CharWidth.columns c.args.self.now c.push_line-2.new.self c.args.border (items_of c.in_ok-line.line) (items_of c.fill.new.line) pads
    (items_told g.D.Annotation.Tag.same g.D.Annotation.Tag.tells (items_of c.in_ok-line.line) (shown c.args.border.tag c.args.border) c.in_ok-line.ensures.items)
    c.in_ok-fill.ensures.items)
    c.push_line-2.ensures.line
