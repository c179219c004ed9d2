use Rattle.tbr_rows.proofs.Common.{FillsLine}
use Rattle.tbr_rows.proofs.FilledCells.{one_more_filled}
use Rattle.tbr_rows.proofs.columns.fill_all.Goals as goal

pub loop-line-preserved : goal.loop-line-preserved
loop-line-preserved g c =
    let inv = c.loop-line.invariant in
    let more = one_more_filled
    (FillsLine g.W.CharWidth.columns g.T.PartialEq.eq c.args.align c.args.width c.args.tag.now) c.args.lines.now
    c.loop-line.lines c.loop-line.line-index c.line-item.result c.fill.new.line
    c.loop-line-test.true c.in_ok-fill.ensures inv.filled inv.left in
    record { filled = more.0; left = more.1 }
