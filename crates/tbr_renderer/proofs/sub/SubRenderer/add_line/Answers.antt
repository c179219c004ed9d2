use Rattle.tbr_renderer.proofs.Common.{◌++◌, map, on_ok_weaker, items_of, element_of, items_told}
use Rattle.tbr_renderer.proofs.JoinedLines.{line_after}
use Rattle.tbr_renderer.proofs.sub.SubRenderer.add_line.Goals as goal

pub returns-clause-line : goal.returns-clause-line
returns-clause-line g c =
    let es = map element_of c.take_waiting-waiting.result.items in
    let taken = c.take_waiting-waiting.ensures in
    let whole = items_of c.in_ok-whole.whole in
    on_ok_weaker c.add_filled-2.result
    (line_after g.W.CharWidth.columns c.args.self.now c.take_waiting-waiting.new.self c.add_filled-2.new.self es whole (items_of c.args.line) taken.markers taken.names taken.rest
    (items_told g.D.Annotation.Tag.same g.D.Annotation.Tag.tells whole (items_of es ++ items_of c.args.line) c.in_ok-whole.ensures.items))
    c.add_filled-2.ensures.line
