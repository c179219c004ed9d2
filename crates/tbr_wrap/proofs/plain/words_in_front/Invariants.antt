use Rattle.tbr_wrap.proofs.Common.{◌≡◌, ◌≤◌, ◌<◌, ◌-◌, false, Some, take, fold, reads, AreWords}
use Rattle.tbr_wrap.proofs.plain.words_in_front.Given as goal

abbrev pub invariant-loop-end : goal.invariant-loop-end
invariant-loop-end g l = record {
  within : l.end ≤ l.most;
  read : fold (reads g.W.CharWidth.columns) (Some false) (take l.end l.bytes) ≡ Some false;
  words : 0 < l.end → AreWords g.W.CharWidth.columns (take l.end l.bytes);
}

abbrev pub decreases-loop-end : goal.decreases-loop-end
decreases-loop-end g l = l.most - l.end
