use Rattle.tbr_renderer.proofs.Common.{Each, EndsBest}
use Rattle.tbr_renderer.proofs.AppendedLines.{HasCells}
use Rattle.tbr_renderer.proofs.sub.SubRenderer.add_cells_below.Given as goal

abbrev pub invariant-loop-col : goal.invariant-loop-col
invariant-loop-col g l = HasCells g.W.CharWidth.columns l.fn.self l.yielded l.self × Each (λ col. EndsBest g.W.CharWidth.columns col) l.yielded
