use Rattle.tbr_renderer.proofs.Common.{◌∙◌, ap, IfOk-weaker, items_of, line_seen, items_told}
use Rattle.tbr_border.specs.RenderLine.{items_under}
use Rattle.tbr_renderer.specs.Appended.{as_text}
use Rattle.tbr_kept_lines.proofs.Prefixes.{under_seen}
use Rattle.tbr_renderer.proofs.sub.SubRenderer.as_text.Goals as goal

pub returns-clause-items : goal.returns-clause-items
returns-clause-items g c =
    let line = c.args.line in
    let tag = c.in_ok-tag.tag in
    IfOk-weaker c.into_tagged_line_with.result _ _
    (λ text same. items_told g.D.Annotation.Tag.same g.D.Annotation.Tag.tells (items_of text) (items_under tag line) same
    ∙ under_seen tag line ∙ ap (λ t. as_text t (line_seen line)) c.in_ok-tag.ensures)
    c.into_tagged_line_with.ensures.items
