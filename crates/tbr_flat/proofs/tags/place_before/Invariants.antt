use Rattle.tbr_flat.proofs.Common.{◌≡◌, ◌≤◌, ◌+◌, length, drop, tags_of}
use Rattle.tbr_flat.proofs.tags.place_before.Given as goal

abbrev pub invariant-loop-left : goal.invariant-loop-left
invariant-loop-left g l = record {
  within : l.nth ≤ length l.stored.items;
  reached : l.left + length (tags_of (drop l.nth l.stored.items)) ≡ l.last;
}

abbrev pub decreases-loop-left : goal.decreases-loop-left
decreases-loop-left g l = l.left
