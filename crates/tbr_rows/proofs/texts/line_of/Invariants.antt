use Rattle.tbr_rows.proofs.Common.{◌≡◌, ◌++◌, map, take, drop, glyph, items_of, SameItems, IsMerged, line_text, dropped}
use Rattle.tbr_rows.proofs.texts.line_of.Given as goal

abbrev pub invariant-loop-i : goal.invariant-loop-i
invariant-loop-i g l = record {
  items : SameItems g.T.PartialEq.eq (items_of l.line) (line_text (glyph l.separator l.tag) l.tag (take l.i l.initial.columns.items) 0);
  merged : IsMerged g.T.PartialEq.eq l.line;
  columns : l.columns.items ≡ map (dropped 1) (take l.i l.initial.columns.items) ++ drop l.i l.initial.columns.items;
}
