use Rattle.column_widths.proofs.Common.{◌≡◌, ◌-◌, take, sum_by, share}
use Rattle.column_widths.proofs.share.left_over.Given as goal

abbrev pub invariant-loop-need : goal.invariant-loop-need
invariant-loop-need l = l.left ≡ l.extra - sum_by (share l.extra l.all) (take l.need-index l.columns)
