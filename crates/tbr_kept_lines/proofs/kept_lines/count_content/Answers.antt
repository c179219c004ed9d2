use Rattle.tbr_kept_lines.proofs.Common.{◌≤◌, ◌∙◌, Bool, true, false, ap, arith}
use mir.Val.{bool_byte}
use Rattle.tbr_kept_lines.proofs.KeptParts.{content_next}
use Rattle.tbr_kept_lines.proofs.kept_lines.count_content.Goals as goal

pub loop-line-preserved : goal.loop-line-preserved
loop-line-preserved g c =
    let one = c.from-count.ensures in
    let within = c.loop-line.invariant.within in
    record {
      counts = content_next g.T.PartialEq.eq c.args.lines.now c.loop-line.line-index c.loop-line.count c.from-count.result c.line-item.result c.requires c.loop-line-test.true c.line-item.is
          c.loop-line.invariant.counts (one ∙ ap bool_byte c.has_content.ensures);
      within = omega (arith, within, byte_below c.has_content.result, one);
    }
  where
    byte_below : (b : Bool) → bool_byte b ≤ 1
    byte_below true = omega arith
    byte_below false = omega arith
