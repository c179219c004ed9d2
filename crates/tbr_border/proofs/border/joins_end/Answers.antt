use Rattle.tbr_border.proofs.Common.{refl, Horiz, cell_of, side_of}
use Rattle.tbr_border.proofs.JoinedCells.{end_more}
use Rattle.tbr_border.proofs.border.joins_end.Goals as goal
use Rattle.tbr_border.proofs.border.joins_end.Goals.{then-merges, else-merges}

pub loop-i-preserved : goal.loop-i-preserved
loop-i-preserved c =
    let more = end_more cell_of (side_of c.args.side) c.args.other.now c.loop-i.i Horiz c.loop-i-test.true in
    elim c.if-merges.branch [
      | then-merges w ↦ rw (w.end-is, more, ← c.merges.ensures, w.if-merges.true) refl
      | else-merges w ↦ rw (w.end-is, more, ← c.merges.ensures, w.if-merges.false) c.loop-i.invariant
    ]
