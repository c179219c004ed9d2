use Rattle.tbr_wrap.proofs.Common.{◌≡◌, ◌<◌, false, List, length, take, Item, items_width, IsNarrow, Laid, put_items, SameItems, HoldsRule, KeepsLimits}
use Rattle.tbr_wrap.proofs.laid_lines.LaidLines.put_word.Given as goal

abbrev pub invariant-loop-width : goal.invariant-loop-width
invariant-loop-width g l = record {
  put : (before given : List (List (Item g.row.T.Denot))) (r : Laid g.row.T.Denot) (js : List (Item g.row.T.Denot)) →
      HoldsRule g.W.CharWidth.columns g.T.PartialEq.eq l.fn.self before given r →
      SameItems g.T.PartialEq.eq l.fn.self.flat.word js →
      (q : Laid g.row.T.Denot) × (ks : List (Item g.row.T.Denot)) × HoldsRule g.W.CharWidth.columns g.T.PartialEq.eq l.self before given q × SameItems g.T.PartialEq.eq l.self.flat.word ks
      × (put_items g.W.CharWidth.columns l.fn.self.width r js ≡ put_items g.W.CharWidth.columns l.fn.self.width q ks);
  back : IsNarrow g.W.CharWidth.columns l.fn.self.width l.fn.self.flat.word → IsNarrow g.W.CharWidth.columns l.fn.self.width l.self.flat.word;
  narrow : l.fn.self.may_overflow ≡ false → l.fn.self.width < items_width g.W.CharWidth.columns (take 1 l.fn.self.flat.word) → l.self.flat.word ≡ l.fn.self.flat.word;
  limits : KeepsLimits l.fn.self l.self;
}

abbrev pub decreases-loop-width : goal.decreases-loop-width
decreases-loop-width g l = length l.self.flat.word
