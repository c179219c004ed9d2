use Rattle.tbr_view.proofs.Common.{ap, on_ok_weaker}
use Rattle.tbr_view.specs.Shown.{elements_in}
use Rattle.tbr_view.proofs.show.push_annotated.Goals as goal

pub returns : goal.returns
returns g c =
    let rich = c.in_ok-rich.rich in
    let border = ap (λ b. elements_in g.W.CharWidth.columns c.args.format b rich) c.is_border-is_border.ensures in
    on_ok_weaker c.push_elements.result
    (λ h. (_, (c.in_ok-tagged.tagged, rich, (c.in_ok-tagged.ensures.text, c.in_ok-tagged.ensures.items), c.in_ok-rich.ensures, border), h)) c.push_elements.ensures
