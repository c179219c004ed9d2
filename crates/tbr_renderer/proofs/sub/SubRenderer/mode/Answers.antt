use Rattle.tbr_renderer.proofs.Common.{List, ap, ◌∙◌, Renderer, last_mode}
use Rattle.tbr_renderer.proofs.JoinedLines.{last_mode_is}
use Rattle.tbr_renderer.proofs.sub.SubRenderer.mode.Goals as goal

pub returns-in-Some : goal.returns-in-Some
returns-in-Some g c =
    last_mode_is c.deref.result.now c.in-Some.mode.now c.in-Some.ensures.value
    ∙ ap last_mode (c.deref.ensures.value
    ∙ ap (λ (r : Renderer g.row.D.Denot g.row.D-Annotation-Meaning.Denot (List g.row.D-Annotation-Meaning.Denot)). r.modes) c.self.view_is)
