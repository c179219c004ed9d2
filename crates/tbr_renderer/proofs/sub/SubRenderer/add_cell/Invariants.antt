use Rattle.tbr_renderer.proofs.AppendedLines.{HasCell}
use Rattle.tbr_renderer.proofs.sub.SubRenderer.add_cell.Given as goal

abbrev pub invariant-loop-line : goal.invariant-loop-line
invariant-loop-line g l = HasCell g.W.CharWidth.columns l.fn.self l.yielded l.self
