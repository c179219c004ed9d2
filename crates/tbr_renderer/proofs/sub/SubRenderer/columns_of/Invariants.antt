use Rattle.tbr_renderer.proofs.Common.{Each, pointwise, AreSideBySide, EndsBest}
use Rattle.tbr_renderer.proofs.PutRows.{HasColumns}
use Rattle.tbr_renderer.proofs.sub.SubRenderer.columns_of.Given as goal

abbrev pub invariant-loop-col : goal.invariant-loop-col
invariant-loop-col g l =
    HasColumns (pointwise g.D.Annotation.Tag.same) g.W.CharWidth.columns l.fn.aligns l.fn.self.annotations l.yielded l.columns l.aligns.rest.now × AreSideBySide 0 l.columns
    × Each (λ col. EndsBest g.W.CharWidth.columns col.0) l.yielded
