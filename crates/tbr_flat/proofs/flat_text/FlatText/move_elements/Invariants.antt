use Rattle.tbr_flat.proofs.Common.{◌≡◌, ◌≤◌, ◌-◌, ◌++◌, take, drop, SameItems, IsMerged, items_of, HasGrown}
use Rattle.tbr_flat.proofs.flat_text.FlatText.move_elements.Given as goal

abbrev pub invariant-loop-left : goal.invariant-loop-left
invariant-loop-left g l = record {
  within : l.left ≤ l.fn.items;
  items : SameItems g.T.PartialEq.eq (items_of l.line) (items_of l.fn.line ++ take (l.fn.items - l.left) l.fn.self.placed);
  merged : IsMerged g.T.PartialEq.eq l.fn.line → IsMerged g.T.PartialEq.eq l.line;
  grown : HasGrown l.fn.line l.line;
  rest : l.self ≡ record l.fn.self { placed = drop (l.fn.items - l.left) l.fn.self.placed };
}

abbrev pub decreases-loop-left : goal.decreases-loop-left
decreases-loop-left g l = l.left
