use Rattle.tbr_border.proofs.Common.{◌≡◌, List, ◌++◌, map, length, items_of, SameItems, cell_of, Hole, AreInOrder, shown_from, hole_of}
use Rattle.tbr_tagged.specs.Elements.{IsMerged}
use Rattle.tbr_border.proofs.border.flattened.Given as goal

abbrev pub invariant-loop-span : goal.invariant-loop-span
invariant-loop-span g l = record {
  items : (rest : List (Hole g.row.T.Denot)) →
      SameItems g.T.PartialEq.eq (items_of l.line ++ shown_from l.tag (map cell_of l.cells) l.at rest)
      (shown_from l.tag (map cell_of l.cells) 0 (map hole_of l.yielded ++ rest));
  merged : IsMerged g.T.PartialEq.eq l.line;
  fit : (rest : List (Hole g.row.T.Denot)) → map hole_of l.fn.holes.items ≡ map hole_of l.yielded ++ rest → AreInOrder l.at rest (length l.cells);
}
