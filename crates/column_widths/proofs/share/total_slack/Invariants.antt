use Rattle.column_widths.proofs.Common.{◌≡◌, ◌-◌, ◌*◌, ◌^◌, ◌≤◌, take, sum_by, slack}
use Rattle.column_widths.proofs.share.total_slack.Given as goal

abbrev pub invariant-loop-need : goal.invariant-loop-need
invariant-loop-need l = record {
  total : l.total ≡ sum_by slack (take l.need-index l.columns);
  fits : l.total ≤ l.need-index * (2 ^ 64 - 1);
}
