use Rattle.tbr_renderer.proofs.Common.{◌≡◌, length}
use Rattle.std.specs.Iterator.{Yields}
use Rattle.tbr_renderer.proofs.sub.appended.first_given.Given as goal

abbrev pub invariant-loop : goal.invariant-loop
invariant-loop g l = record {
  able : g.I.Iterator.can_next l.prefixes;
  yields : Yields g.I.Iterator.next_gives l.fn.prefixes l.given.items l.prefixes;
  as_many : length l.given.items ≡ l.counter;
}
