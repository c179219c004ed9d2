use Rattle.tbr_renderer.proofs.Common.{map, items_of}
use Rattle.tbr_renderer.proofs.AppendedLines.{HasPut}
use Rattle.tbr_renderer.proofs.sub.SubRenderer.add_texts.Given as goal

abbrev pub invariant-loop-text : goal.invariant-loop-text
invariant-loop-text g l =
    HasPut g.W.CharWidth.columns l.fn.self (map items_of l.yielded) l.self
