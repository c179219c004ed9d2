use Rattle.tbr_model.proofs.Common.{◌≡◌, ◌+◌, ◌-◌, ◌<◌, ◌↔◌, true, IsTrue, List, [], ◌∷◌, ◌++◌, length, take, drop, length-drop, length-append, length-take, ap, ◌∙◌, subst, arith, length-map, Slot}
use Rattle.tbr_model.proofs.Common.{TellsRests, HasLegalLayout, slot_value, slot_values}
use Rattle.tbr_model.proofs.layouts.LongestLines.{tells_first, tells_more, tells_later, legal_if_found}
use Rattle.tbr_model.proofs.layouts.StoredSlots.{slot_values_rest}
use Rattle.tbr_model.proofs.best.solved_rests.Goals as goal

pub loop-from-init : goal.loop-from-init
loop-from-init g c =
    let slots = slot_values c.args.slots.now in
    let items : c.push.new.self.items ≡ true ∷ [] = let e = c.in_ok-push.ensures.items in let f = c.new-solved.ensures.items in cc in
    let one : 1 ≡ length c.args.slots.now - length c.args.slots.now + 1 = omega arith in
    (subst (λ n. TellsRests c.args.width slots n c.push.new.self.items) one (tells_first c.args.width slots c.push.new.self.items items), omega (arith, ap length items))

pub longest_line-requires : goal.longest_line-requires
longest_line-requires g c =
    let xs = c.args.slots.now in
    let slots = slot_values xs in
    let from = c.loop-from.from - 1 in
    let long : length slots ≡ length xs = length-map xs slot_value in
    let later = tells_later c.args.width slots (length xs - c.loop-from.from + 1) from c.loop-from.solved.items c.loop-from.invariant.0 (omega arith) (omega arith) in
    let count : length slots - from ≡ length (take (length xs - from) (drop from xs)) = omega (arith, length-take (length xs - from) (drop from xs), length-drop from xs) in
    rw (c.deref.ensures.value, slot_values_rest xs from) (subst (λ n. TellsRests c.args.width (drop from slots) n c.loop-from.solved.items) count later)

pub loop-from-preserved : goal.loop-from-preserved
loop-from-preserved g c =
    let xs = c.args.slots.now in
    let slots = slot_values xs in
    let from = c.loop-from.from - 1 in
    let n = length xs - c.loop-from.from + 1 in
    let long : length slots ≡ length xs = length-map xs slot_value in
    let some : 0 < length (take (length xs - from) (drop from xs)) = omega (arith, length-take (length xs - from) (drop from xs), length-drop from xs) in
    let found =
    legal_if_found c.args.width (length (take (length xs - from) (drop from xs)))
    (slot_values (take (length xs - from) (drop from xs))) c.longest_line.result c.is_some-found.result some
    c.is_some-found.ensures c.longest_line.ensures in
    let place : from ≡ length slots - n = omega arith in
    let new : IsTrue c.is_some-found.result ↔ HasLegalLayout c.args.width (drop (length slots - n) slots) =
    subst (λ (l : List (Slot _)). IsTrue c.is_some-found.result ↔ HasLegalLayout c.args.width l) (slot_values_rest xs from ∙ ap (λ i. drop i slots) place) found in
    let more = tells_more c.args.width slots n c.loop-from.solved.items c.is_some-found.result c.loop-from.invariant.0 c.loop-from.invariant.1 new in
    let items : c.push-in-loop-from.new.self.items ≡ c.loop-from.solved.items ++ c.is_some-found.result ∷ [] = c.in_ok-push-2.ensures.items in
    let count : n + 1 ≡ length xs - from + 1 = omega arith in
    (rw (items, ← count) more, omega (arith, ap length items, length-append c.loop-from.solved.items (c.is_some-found.result ∷ []), c.loop-from.invariant.1))
