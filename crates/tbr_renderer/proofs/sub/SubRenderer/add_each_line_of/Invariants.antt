use Rattle.tbr_renderer.proofs.Common.{length, left}
use Rattle.tbr_renderer.proofs.BlockEnds.{HasLines}
use Rattle.tbr_renderer.proofs.sub.SubRenderer.add_each_line_of.Given as goal

abbrev pub invariant-loop-block : goal.invariant-loop-block
invariant-loop-block g l = HasLines g.W.CharWidth.columns l.initial.block l.block l.initial.self l.self

abbrev pub decreases-loop-block : goal.decreases-loop-block
decreases-loop-block g l = length (left g.W.CharWidth.columns l.block)
