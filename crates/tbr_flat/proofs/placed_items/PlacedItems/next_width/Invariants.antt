use Rattle.tbr_flat.proofs.Common.{◌≡◌, ◌-◌, min, take, drop, given_width}
use Rattle.std.proofs.Common.{◌^◌}
use Rattle.tbr_flat.proofs.placed_items.PlacedItems.next_width.Given as goal

abbrev pub invariant-loop : goal.invariant-loop
invariant-loop g l = record {
  width : l.width ≡ min (given_width g.W.CharWidth.columns (take l.counter l.fn.self)) (2 ^ 64 - 1);
  rest : l.self ≡ drop l.counter l.fn.self;
}
