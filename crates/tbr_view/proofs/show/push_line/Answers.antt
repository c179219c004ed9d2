use Rattle.tbr_view.proofs.Common.{sym, on_ok_weaker}
use Rattle.tbr_view.proofs.ShownLines.{shown_in}
use Rattle.tbr_view.proofs.show.push_line.Goals as goal

pub returns : goal.returns
returns g c = on_ok_weaker c.push_annotated.result
    (λ h. (
      h.0,
      shown_in g.T.Tag.meaning g.T.PartialEq.eq g.T.Annotation.rich g.W.CharWidth.columns c.args.format c.args.line c.in_ok-line.line h.0 (sym c.if-is_text.ensures)
          (c.in_ok-line.ensures.written, c.in_ok-line.ensures.merged) h.1,
      h.2,
    ))
    c.push_annotated.ensures
