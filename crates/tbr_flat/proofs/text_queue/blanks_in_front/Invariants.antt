use Rattle.tbr_flat.proofs.Common.{◌≡◌, ◌≤◌, ◌-◌, true, length, take, chars, Each, is_whitespace}
use Rattle.tbr_flat.proofs.TextBytes.{IsRead}
use Rattle.tbr_flat.proofs.text_queue.blanks_in_front.Given as goal

abbrev pub invariant-loop-count : goal.invariant-loop-count
invariant-loop-count l = record {
  read : IsRead l.text l.rest.rest.now l.count;
  within : l.count ≤ length (chars l.text);
  most : l.count ≤ l.most;
  blank : Each (λ c. is_whitespace c ≡ true) (take l.count (chars l.text));
}

abbrev pub decreases-loop-count : goal.decreases-loop-count
decreases-loop-count l = l.most - l.count
