use Rattle.tbr_view.proofs.Common.{length, decoration_of, lines_of, GoesOn, Place, place_of, LinesDo}
use Rattle.tbr_view.specs.Lines.{begun}
use Rattle.tbr_view.proofs.script.run.Given as goal

abbrev pub invariant-loop-line : goal.invariant-loop-line
invariant-loop-line g l = record {
  -- where the rest leads from here, the whole leads
  so_far : (last : Place _ _) →
      LinesDo g.W.CharWidth.columns (decoration_of g.D.TextDecorator g.D.Annotation.Tag.tells) (place_of l.session.program l.session.levels.inside.items l.session.tables) (lines_of l.lines) last →
      LinesDo g.W.CharWidth.columns (decoration_of g.D.TextDecorator g.D.Annotation.Tag.tells) (begun l.fn.opening l.fn.decorator) (lines_of l.fn.lines) last;
  live : GoesOn l.session.program;
}

abbrev pub decreases-loop-line : goal.decreases-loop-line
decreases-loop-line g l = length l.lines
