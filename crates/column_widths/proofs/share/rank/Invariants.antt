use Rattle.column_widths.proofs.Common.{◌≡◌, ◌≤◌, take, count_by, enumerate_from, is_ahead}
use Rattle.column_widths.proofs.share.rank.Given as goal

abbrev pub invariant-loop-other_place : goal.invariant-loop-other_place
invariant-loop-other_place l = record {
  counted : l.before ≡ count_by (is_ahead (l.place, l.need)) (take l.other_place (enumerate_from 0 l.columns));
  fits : l.before ≤ l.other_place;
}
