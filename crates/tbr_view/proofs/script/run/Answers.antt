use Rattle.tbr_view.proofs.Common.{subst, decoration_of, lines_of, bytes_of, place_of, LinesDo}
use Rattle.tbr_program.proofs.Results.{if_ok_then}
use Rattle.tbr_view.proofs.States.{no_line_left, line_done}
use Rattle.tbr_view.proofs.script.run.Goals as goal

pub loop-line-init : goal.loop-line-init
loop-line-init g c = record {
  so_far = λ last more. subst (λ s. LinesDo g.W.CharWidth.columns (decoration_of g.D.TextDecorator g.D.Annotation.Tag.tells) s (lines_of c.args.lines) last) c.in_ok-session.ensures.begins more;
  live = c.in_ok-session.ensures.live;
}

pub loop-line-preserved : goal.loop-line-preserved
loop-line-preserved g c =
    let here = place_of c.loop-line.session.program c.loop-line.session.levels.inside.items c.loop-line.session.tables in
    let next = place_of c.run_line.new.self.program c.run_line.new.self.levels.inside.items c.run_line.new.self.tables in
    record {
      so_far = λ last more. c.loop-line.invariant.so_far last
          (line_done g.W.CharWidth.columns (decoration_of g.D.TextDecorator g.D.Annotation.Tag.tells) here next last
          c.loop-line.lines (bytes_of c.in-Some.line) c.next.new.self c.in-Some.ensures.line c.in_ok-run_line.ensures.does more);
      live = c.in_ok-run_line.ensures.live;
    }

pub returns : goal.returns
returns g c =
    let here = place_of c.loop-line.session.program c.loop-line.session.levels.inside.items c.loop-line.session.tables in
    if_ok_then c.finish.result (λ r ends. (
      here,
      c.loop-line.invariant.so_far here
          (no_line_left g.W.CharWidth.columns (decoration_of g.D.TextDecorator g.D.Annotation.Tag.tells) here
          c.loop-line.lines c.in_default.ensures.line.0),
      ends,
    )) c.finish.ensures.lines
