use Rattle.tbr_wrap.proofs.runs.BlockLaws.{none_open}
use Rattle.test_parts.proofs.ended.ended.Goals as goal

pub into_ended-requires-clause-ended : goal.into_ended-requires-clause-ended
into_ended-requires-clause-ended g c = none_open g.W.CharWidth.columns c.fill.new.block c.flush.new.self c.in_ok-flush.ensures.answers.ok
