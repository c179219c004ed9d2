use Rattle.tbr_renderer.proofs.Common.{List, ◌∙◌, ◌≡◌, true, ap, sym, on_ok_weaker, items_of, Renderer, items_told}
use Rattle.tbr_renderer.proofs.JoinedLines.{filled}
use Rattle.tbr_renderer.proofs.sub.SubRenderer.fill.Goals as goal

pub returns-clause-items : goal.returns-clause-items
returns-clause-items g c =
    let pads : c.args.self.now.options.pad_block_width ≡ true =
    ap (λ (r : Renderer g.row.D.Denot g.row.D-Annotation-Meaning.Denot (List g.row.D-Annotation-Meaning.Denot)).
    r.options.pad_block_width) (sym c.self.view_is) ∙ c.if-not-self.false in
    on_ok_weaker c.pad_to.result (λ same. items_told g.D.Annotation.Tag.same g.D.Annotation.Tag.tells (items_of c.pad_to.new.self) _ same
    ∙ filled g.W.CharWidth.columns c.args.self.now c.in_ok-tag.tag c.self.inside.width (items_of c.args.line.now) pads c.in_ok-tag.ensures
    (ap (λ (r : Renderer g.row.D.Denot g.row.D-Annotation-Meaning.Denot (List g.row.D-Annotation-Meaning.Denot)). r.width) c.self.view_is))
    c.pad_to.ensures.items
