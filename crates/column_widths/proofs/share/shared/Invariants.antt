use Rattle.column_widths.proofs.Common.{◌≡◌, map, take, enumerate_from, width_at}
use Rattle.column_widths.proofs.share.shared.Given as goal

abbrev pub invariant-loop-place : goal.invariant-loop-place
invariant-loop-place l =
    l.widths.items
    ≡ map (width_at l.extra l.all l.left (enumerate_from 0 l.columns)) (take l.place (enumerate_from 0 l.columns))
