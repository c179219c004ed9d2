use Rattle.column_widths.proofs.Common.{◌≡◌, ◌-◌, ◌*◌, ◌^◌, ◌≤◌, take, sum_by, width_of}
use Rattle.column_widths.proofs.room.total.Given as goal

abbrev pub invariant-loop-need : goal.invariant-loop-need
invariant-loop-need l = record {
  total : l.total ≡ sum_by (width_of l.bound) (take l.need-index l.needs);
  fits : l.total ≤ l.need-index * (2 ^ 64 - 1);
}
