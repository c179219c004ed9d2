use Rattle.tbr_rows.proofs.Common.{◌≡◌, map, Each, glyph, IsMerged, HaveTexts, line_texts, dropped}
use Rattle.tbr_rows.proofs.texts.lines_of.Given as goal

abbrev pub invariant-loop : goal.invariant-loop
invariant-loop g l = record {
  items : HaveTexts g.T.PartialEq.eq l.lines.items (line_texts (glyph l.separator l.tag) l.tag l.initial.columns.items l.counter);
  merged : Each (IsMerged g.T.PartialEq.eq) l.lines.items;
  rest : l.columns.items ≡ map (dropped l.counter) l.initial.columns.items;
}
