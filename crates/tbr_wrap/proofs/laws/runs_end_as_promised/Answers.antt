use Rattle.tbr_wrap.proofs.runs.BlockLaws.{flush_ends}
use Rattle.tbr_wrap.proofs.laws.runs_end_as_promised.Goals as goal

pub returns : goal.returns
returns g c = λ columns one s t wide e. flush_ends columns one s wide t e
