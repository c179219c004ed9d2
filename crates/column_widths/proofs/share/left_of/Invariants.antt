use Rattle.column_widths.proofs.Common.{◌≡◌, ◌+◌, take, sum_by, width_of}
use Rattle.column_widths.proofs.share.left_of.Given as goal

abbrev pub invariant-loop-need : goal.invariant-loop-need
invariant-loop-need l = l.left + sum_by (width_of l.bound) (take l.need-index l.columns) ≡ l.room
