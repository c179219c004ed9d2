use Rattle.std.proofs.Common.{◌++◌, take, refl}
use Rattle.tbr_script.proofs.Writes.{appends_more, cut}
use Rattle.tbr_script.proofs.streams.write_all.Goals as goal

pub loop-rest-preserved : goal.loop-rest-preserved
loop-rest-preserved g c =
    let so_far = c.loop-rest.invariant.written in
    let n = c.in_ok-count.count in
    let rest = c.loop-rest.rest.now in
    record {
      written = (
        so_far.0 ++ take n rest,
        cut n _ so_far.0 rest _ refl so_far.1,
        appends_more (g.S.Sink.contents c.args.sink.now) (g.S.Sink.contents c.loop-rest.sink)
            (g.S.Sink.contents c.write.new.self) so_far.0 (take n rest) so_far.2 c.in_ok-count.ensures.bytes,
      );
      failure = cc (c.in_ok-count.ensures.failure, c.loop-rest.invariant.failure);
    }
