use Rattle.tbr_model.proofs.Common.{◌≡◌, ◌+◌, ◌-◌, ◌<◌, length, take, sym, arith, take-map, length-map, IsLegalLine, slot_value, slot_values}
use Rattle.tbr_model.proofs.layouts.LongestLines.{EndsLine, none_more, rest_solved, longest_end_line, no_line}
use Rattle.tbr_model.proofs.best.longest_line.Goals as goal
use Rattle.tbr_model.proofs.best.longest_line.Goals.{else-solved-slots-via-then-solved-slots+else-is_legal_line, else-solved-slots-via-else-solved-slots}

pub returns-then-is_legal_line : goal.returns-then-is_legal_line
returns-then-is_legal_line g c =
    let xs = c.args.slots.now in
    let slots = slot_values xs in
    let end = c.loop-last.last - 1 + 1 in
    let long : length slots ≡ length xs = length-map xs slot_value in
    let rest = (rest_solved c.args.width (length xs) slots c.args.solved.now c.requires (sym long) end (omega arith) (omega arith)).0 c.if-solved-slots.true in
    let legal : IsLegalLine c.args.width (take end slots) = rw take-map (c.is_legal_line.ensures.0 c.if-is_legal_line.true) in
    longest_end_line c.args.width slots end (omega arith) (omega arith) (legal, rest) (λ e p q. c.loop-last.invariant e (omega arith) (omega arith))

pub loop-last-preserved : goal.loop-last-preserved
loop-last-preserved g c =
    let xs = c.args.slots.now in
    let slots = slot_values xs in
    let end = c.loop-last.last - 1 + 1 in
    let long : length slots ≡ length xs = length-map xs slot_value in
    let rest = rest_solved c.args.width (length xs) slots c.args.solved.now c.requires (sym long) end (omega arith) (omega arith) in
    let here : ¬ EndsLine c.args.width slots end =
    elim c.else-solved-slots.branch [
      | else-solved-slots-via-then-solved-slots+else-is_legal_line w ↦
          (λ k. let line = rw take-map at k.0 in let legal = w.is_legal_line.ensures.1 line in let no = w.if-is_legal_line.false in cc)
      | else-solved-slots-via-else-solved-slots w ↦ (λ k. let yes = rest.1 k.1 in let no = w.if-solved-slots.false in cc)
    ] in
    none_more (EndsLine c.args.width slots) c.loop-last.last (length xs) end (omega arith) c.loop-last.invariant here

pub returns : goal.returns
returns g c =
    let xs = c.args.slots.now in
    let long : length (slot_values xs) ≡ length xs = length-map xs slot_value in
    let none = λ (some : 0 < length xs). no_line c.args.width (slot_values xs) (λ e p q. c.loop-last.invariant e (omega arith) (omega arith)) (omega arith) in
    none
