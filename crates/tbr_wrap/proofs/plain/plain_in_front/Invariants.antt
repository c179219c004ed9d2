use Rattle.tbr_wrap.proofs.Common.{◌≤◌, ◌-◌, take, ArePlain}
use Rattle.tbr_wrap.proofs.plain.plain_in_front.Given as goal

abbrev pub invariant-loop-count : goal.invariant-loop-count
invariant-loop-count g l = record {
  within : l.count ≤ l.most;
  plain : ArePlain g.W.CharWidth.columns l.spaced (take l.count l.bytes);
}

abbrev pub decreases-loop-count : goal.decreases-loop-count
decreases-loop-count g l = l.most - l.count
