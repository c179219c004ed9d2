use Rattle.tbr_model.proofs.Common.{◌≡◌, ◌+◌, ◌<◌, take, rest_width, slot_values}
use Rattle.std.proofs.Common.{◌^◌}
use Rattle.tbr_model.proofs.layout.line_width.Given as goal

abbrev pub invariant-loop-slot : goal.invariant-loop-slot
invariant-loop-slot g l = (l.taken ≡ l.initial.taken + rest_width (slot_values (take l.slot-index l.others))) × (l.taken < 2 ^ 64)
