use Rattle.tbr_tagged.proofs.Common.{◌≤◌, ◌-◌, take, AreNarrow}
use Rattle.tbr_tagged.proofs.width.narrow_in_front.Given as goal

abbrev pub invariant-loop-count : goal.invariant-loop-count
invariant-loop-count g l = record {
  within : l.count ≤ l.most;
  narrow : AreNarrow g.W.CharWidth.columns (take l.count l.bytes);
}

abbrev pub decreases-loop-count : goal.decreases-loop-count
decreases-loop-count g l = l.most - l.count
