use Rattle.tbr_flat.proofs.Common.{◌≡◌, ◌-◌, ◌≤◌, length, drop, replicate}
use Rattle.tbr_flat.proofs.text_queue.spaces_at_end.Given as goal

abbrev pub invariant-loop-count : goal.invariant-loop-count
invariant-loop-count l = record {
  within : l.count ≤ l.longest;
  ends : drop (length l.text - l.count) l.text ≡ replicate l.count 32;
}

abbrev pub decreases-loop-count : goal.decreases-loop-count
decreases-loop-count l = l.longest - l.count
