use Rattle.tbr_wrap.proofs.Common.{refl}
use Rattle.tbr_wrap.proofs.runs.BlockLaws.{flush_in_two}
use Rattle.tbr_wrap.proofs.block.WrappedBlock.flush.Goals as goal

pub returns-clause-two_columns : goal.returns-clause-two_columns
returns-clause-two_columns g c = λ live two is.
    flush_in_two g.W.CharWidth.columns (g.met.W.CharWidth.drawn_in_one 32 refl) g.met.W.CharWidth.at_most_two c.args.self.now two live (c.end_run.ensures.answers.too_narrow is)
