use Rattle.tbr_border.proofs.Common.{◌≡◌, List, ◌++◌, map, take, drop, length, chars, string_bytes, item_characters, cell_of, Hole, AreInOrder, shown_from, hole_of}
use Rattle.tbr_border.proofs.border.BorderHoriz.append_to.Given as goal

abbrev pub invariant-loop-span : goal.invariant-loop-span
invariant-loop-span g l = record {
  text : (rest : List (Hole g.row.T.Denot)) → chars (string_bytes l.text) ++ item_characters (shown_from l.self.tag (map cell_of l.cells) l.at rest)
      ≡ chars (string_bytes l.fn.text) ++ item_characters (shown_from l.self.tag (map cell_of l.cells) 0 (map hole_of (take l.span-index l.span-items) ++ rest));
  fit : AreInOrder l.at (map hole_of (drop l.span-index l.span-items)) (length l.cells);
}
