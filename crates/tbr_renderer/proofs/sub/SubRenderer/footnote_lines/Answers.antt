use Rattle.tbr_renderer.proofs.Common.{map, ap, ◌∙◌, IfOk-weaker, items_of}
use Rattle.tbr_decor.specs.Meant as decor
use Rattle.tbr_footnotes.specs.Cutting.{nothing_cut}
use Rattle.tbr_footnotes.proofs.CutLines.{cut_whole}
use Rattle.tbr_renderer.proofs.sub.SubRenderer.footnote_lines.Goals as goal

pub returns-clause-lines : goal.returns-clause-lines
returns-clause-lines g c =
    let meaning = g.D.Annotation.Tag.meaning in
    IfOk-weaker c.finish.result _ _ (λ lines. cut_whole meaning g.W.CharWidth.columns _ c.new-lines.result c.push_line.new.self (map (decor.meant meaning) c.args.link) (map items_of lines.items)
    (c.new-lines.ensures ∙ ap nothing_cut c.link_width.ensures) c.in_ok-push_line.ensures) c.finish.ensures.lines
