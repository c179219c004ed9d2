use Rattle.tbr_kept_lines.proofs.Common.{chars}
use Rattle.tbr_kept_lines.proofs.Prefixes.{put_more}
use Rattle.tbr_kept_lines.proofs.kept_lines.put_prefixes.Goals as goal

pub loop-line-preserved : goal.loop-line-preserved
loop-line-preserved g c =
    let inv = c.loop-line.invariant in
    let put = c.in_ok-put_prefix.ensures in
    record {
      put =
          put_more g.T.PartialEq.eq c.args.tag.now (chars c.args.first.now) (chars c.args.others.now) c.args.lines.now
          c.loop-line.lines c.loop-line.line-index (chars c.loop-line.next.now) c.line-item.result
          c.put_prefix.new.line inv.put c.loop-line-test.true put.seen put.merged;
      utf8 = c.utf8.others;
    }
