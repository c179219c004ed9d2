use Rattle.tbr_view.proofs.Common.{◌≡◌, Ok, take, decoration_of, GoesOn, after_each, drawn_made}
use Rattle.tbr_view.proofs.session.Session.draw.Given as goal

abbrev pub invariant-loop-drawn : goal.invariant-loop-drawn
invariant-loop-drawn g l =
    let call = drawn_made g.W.CharWidth.columns (decoration_of g.D.TextDecorator g.D.Annotation.Tag.tells) l.table in record {
      made : after_each call (take l.drawn-index l.drawn-items) l.fn.self.program ≡ Ok l.self.program;
      live : GoesOn l.self.program;
      inside : l.self.levels.inside ≡ l.fn.self.levels.inside;
    }
