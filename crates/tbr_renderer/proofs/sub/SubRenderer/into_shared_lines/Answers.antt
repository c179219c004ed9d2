use Rattle.tbr_renderer.proofs.Common.{map, ap, sym, ◌∙◌, done, line_seen}
use Rattle.tbr_renderer.proofs.JoinedLines.{lines_told}
use Rattle.tbr_renderer.proofs.sub.SubRenderer.into_shared_lines.Goals as goal

pub returns-clause-lines : goal.returns-clause-lines
returns-clause-lines g c =
    let same = g.D.Annotation.Tag.same in let tells = g.D.Annotation.Tag.tells in
    c.in_ok-into_kept.ensures.lines
    ∙ ap (λ lines. done lines) (sym (lines_told same tells (map line_seen c.in_ok-into_vec.field-0.items) c.in_ok-into_kept.field-0 c.in_ok-into_vec.ensures.lines))
