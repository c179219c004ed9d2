use Rattle.tbr_rows.proofs.Common.{◌≡◌, fold, [], seat, Seating}
use Rattle.tbr_rows.proofs.seating.seated.Given as goal

abbrev pub invariant-loop-cell : goal.invariant-loop-cell
invariant-loop-cell g l =
    let s : Seating g.row.T.Denot = record { seated = l.row.items; waiting = l.hanging } in
    s ≡ fold seat (record { seated = []; waiting = l.initial.hanging }) l.yielded
