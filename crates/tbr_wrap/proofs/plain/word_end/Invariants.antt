use Rattle.tbr_wrap.proofs.Common.{◌≡◌, ◌≤◌, ◌-◌, false, nat_lt, Some, take, fold, ArePlain, reads}
use Rattle.tbr_wrap.proofs.plain.word_end.Given as goal

abbrev pub invariant-loop-at : goal.invariant-loop-at
invariant-loop-at g l = record {
  from : l.start ≤ l.at;
  within : l.at ≤ l.most;
  read : fold (reads g.W.CharWidth.columns) (Some false) (take l.start l.bytes) ≡ Some false →
      fold (reads g.W.CharWidth.columns) (Some false) (take l.at l.bytes) ≡ Some (nat_lt l.start l.at);
  first : l.start ≡ 0 → ArePlain g.W.CharWidth.columns false (take l.at l.bytes);
}

abbrev pub decreases-loop-at : goal.decreases-loop-at
decreases-loop-at g l = l.most - l.at
