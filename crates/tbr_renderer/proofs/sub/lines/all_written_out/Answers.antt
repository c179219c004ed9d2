use Rattle.tbr_renderer.proofs.Common.{all_zipped_more, equal_lists, IsMergedText, WritesOut}
use Rattle.tbr_kept_lines.proofs.KeptParts.{each_after}
use Rattle.tbr_renderer.proofs.sub.lines.all_written_out.Goals as goal

pub loop-line-preserved : goal.loop-line-preserved
loop-line-preserved g c =
    let eq = g.A.PartialEq.eq in
    let out = c.in_ok-written_out.field-0 in
    let zipped = all_zipped_more (WritesOut g.A.Tag.meaning) c.loop-line.yielded c.loop-line.written c.in-Some.line out c.loop-line.invariant.0 c.in_ok-written_out.ensures.written in
    let merged = each_after (IsMergedText (equal_lists eq)) c.loop-line.written out c.loop-line.invariant.1 c.in_ok-written_out.ensures.merged in
    rw (c.in_ok-push_back.ensures.items) (zipped, merged)
