use Rattle.tbr_view.proofs.Common.{◌≡◌, ap, subst, decoration_of, openers}
use Rattle.std.proofs.Common.{map}
use Rattle.tbr_stack.specs.Top.{OfTop}
use Rattle.tbr_kept_lines.specs.Line.{line_seen}
use Rattle.tbr_tagged.specs.Outcome.{done}
use Rattle.tbr_program.specs.Closing.{closed}
use Rattle.tbr_view.proofs.session.Session.finish.Goals as goal

pub returns-in-Ok-clause-lines : goal.returns-in-Ok-clause-lines
returns-in-Ok-clause-lines g c =
    let lines = map line_seen c.in-Ok.lines.items in
    let ends_with = closed g.W.CharWidth.columns (decoration_of g.D.TextDecorator g.D.Annotation.Tag.tells) in
    let stack = let p = c.args.self.program in p.stack in
    let ends = subst (λ p. OfTop (λ r. ends_with p.stack.links r ≡ done lines) p.stack) c.in_ok-end.ensures.program c.in-Ok.ensures.lines in
    record {
      levels = ap openers c.in_ok-end.ensures.inside;
      cells = c.in_ok-end.ensures.cells;
      closes = ends;
    }
