use Rattle.tbr_kept_lines.proofs.Common.{List, length, RenderLine, IsMerged, items_of, after_prefixes, Pushes}
use Rattle.tbr_kept_lines.proofs.prefixed_lines.push_after.Given as goal

abbrev pub invariant-loop-prefix : goal.invariant-loop-prefix
invariant-loop-prefix g l = let eq = g.T.PartialEq.eq in record {
  pushes : (all : List (RenderLine g.row.T.Denot)) → Pushes eq l.lines.items (after_prefixes (items_of l.prefix) (items_of l.fn.others) l.ended) all →
      Pushes eq l.fn.lines.items (after_prefixes (items_of l.fn.first) (items_of l.fn.others) l.fn.ended) all;
  merged : IsMerged eq l.prefix;
}

abbrev pub decreases-loop-prefix : goal.decreases-loop-prefix
decreases-loop-prefix g l = length l.ended
