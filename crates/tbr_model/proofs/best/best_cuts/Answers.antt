use Rattle.tbr_model.proofs.Common.{◌≡◌, ◌+◌, ◌-◌, length, take, drop, length-drop, length-take, subst, arith, length-map, TellsRests, slot_value, slot_values}
use Rattle.std.proofs.Common.{rules}
use Rattle.tbr_model.proofs.layouts.LongestLines.{tells_later, last_cut}
use Rattle.tbr_model.proofs.layouts.StoredSlots.{slot_values_rest}
use Rattle.tbr_model.proofs.best.best_cuts.Goals as goal

pub longest_line-requires : goal.longest_line-requires
longest_line-requires g c =
    let xs = c.args.slots.now in
    let slots = slot_values xs in
    let from = c.loop-from.from in
    let long : length slots ≡ length xs = length-map xs slot_value in
    let later = tells_later c.args.width slots (length xs + 1) from c.in_ok-solved.solved.items c.in_ok-solved.ensures (omega arith) (omega arith) in
    let count : length slots - from ≡ length (take (length xs - from) (drop from xs)) = omega (arith, length-take (length xs - from) (drop from xs), length-drop from xs) in
    rw (c.deref.ensures.value, slot_values_rest xs from) (subst (λ n. TellsRests c.args.width (drop from slots) n c.in_ok-solved.solved.items) count later)

pub returns : goal.returns
returns g c = search (rules, last_cut, length-map, c.loop-from.invariant, c.loop-from-test.false)
