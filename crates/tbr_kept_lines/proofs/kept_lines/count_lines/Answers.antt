use Rattle.tbr_kept_lines.proofs.Common.{◌∙◌}
use Rattle.tbr_kept_lines.proofs.Prefixes.{lines_counted}
use Rattle.tbr_kept_lines.proofs.kept_lines.count_lines.Goals as goal

pub loop-part-preserved : goal.loop-part-preserved
loop-part-preserved g c =
    lines_counted c.args.parts.now c.loop-part.part-index c.part-item.result c.loop-part.count c.in_ok-count.count c.in_ok-count-2.count _ _ c.loop-part-test.true c.part-item.is c.loop-part.invariant
    (c.len.ensures ∙ c.part-item.result.before.ok.0) c.in_ok-count.ensures c.len-in-loop-part.ensures c.in_ok-count-2.ensures
