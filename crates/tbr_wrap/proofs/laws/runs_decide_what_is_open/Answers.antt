use Rattle.tbr_wrap.proofs.runs.BlockLaws.{run_decides, shows_columns, character_there}
use Rattle.tbr_wrap.proofs.laws.runs_decide_what_is_open.Goals as goal

pub returns : goal.returns
returns g c = record { normal = λ columns one s sound h. run_decides columns one s sound h.1 h.2; shows = shows_columns; character = character_there }
