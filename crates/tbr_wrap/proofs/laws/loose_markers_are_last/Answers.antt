use Rattle.tbr_wrap.proofs.runs.BlockLaws.{loose_last, loose_after, loose_trailing}
use Rattle.tbr_wrap.proofs.laws.loose_markers_are_last.Goals as goal

pub returns : goal.returns
returns g c = record { last = loose_last; visible = loose_after; trailing = λ columns one s sound h. loose_trailing columns one s sound h.1 h.2 }
