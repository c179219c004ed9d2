use Rattle.tbr_renderer.proofs.Common.{into_iter_items, Each, same_annotations, IsMergedText}
use Rattle.tbr_renderer.proofs.AppendedLines.{HasAfter}
use Rattle.tbr_renderer.proofs.sub.SubRenderer.add_each_after.Given as goal

abbrev pub invariant-loop-prefix : goal.invariant-loop-prefix
invariant-loop-prefix g l = record {
  after : HasAfter g.W.CharWidth.columns l.fn.self g.P.AsStr.text l.fn.lines.items l.yielded (into_iter_items l.lines) l.self;
  merged : Each (IsMergedText (same_annotations g.D.Annotation.Tag.same)) (into_iter_items l.lines);
}
