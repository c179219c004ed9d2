use Rattle.tbr_wrap.proofs.Common.{◌≡◌, ◌<◌, ℕ, Option, List, Some, true, Item, Laid, spaces, put_spaces, SameItems, HoldsRule, HoldsRuleBefore, KeepsLimits}
use Rattle.tbr_wrap.proofs.laid_lines.LaidLines.put_spaces.Given as goal

abbrev pub invariant-loop-left : goal.invariant-loop-left
invariant-loop-left g l = record {
  put : (columns : ℕ → Option ℕ) (before given : List (List (Item g.row.T.Denot))) (r : Laid g.row.T.Denot)
      (a : g.row.T.Denot) → columns 32 ≡ Some 1 → HoldsRule columns g.T.PartialEq.eq l.fn.self before given r →
      g.T.PartialEq.eq l.fn.tag a ≡ true →
      (q : Laid g.row.T.Denot) × (b : g.row.T.Denot) × (g.T.PartialEq.eq b a ≡ true) × HoldsRuleBefore columns
      g.T.PartialEq.eq l.self before given q (spaces l.left b) ×
      (put_spaces l.fn.self.width a l.fn.count r ≡ put_spaces l.fn.self.width a l.left q);
  room : l.self.line_width < l.self.width;
  word : SameItems g.T.PartialEq.eq l.self.flat.word l.fn.self.flat.word;
  limits : KeepsLimits l.fn.self l.self;
}

abbrev pub decreases-loop-left : goal.decreases-loop-left
decreases-loop-left g l = l.left
