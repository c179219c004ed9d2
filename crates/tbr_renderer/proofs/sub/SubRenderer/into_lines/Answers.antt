use Rattle.tbr_renderer.proofs.Common.{ap, sym, ◌∙◌, done}
use Rattle.tbr_renderer.proofs.JoinedLines.{written_mean}
use Rattle.tbr_renderer.proofs.sub.SubRenderer.into_lines.Goals as goal

pub returns-clause-lines : goal.returns-clause-lines
returns-clause-lines g c =
    let f = g.D.Annotation.Tag.meaning in
    c.in_ok-lines.ensures.lines
    ∙ ap (λ lines. done lines) (sym (written_mean f c.in_ok-lines.lines.items _ c.in_ok-all_written_out.ensures.written))
