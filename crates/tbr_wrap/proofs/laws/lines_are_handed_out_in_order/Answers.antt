use Rattle.tbr_wrap.proofs.runs.LinesLeft.{handed_and_left, many_keep}
use Rattle.tbr_wrap.proofs.laws.lines_are_handed_out_in_order.Goals as goal

pub returns : goal.returns
returns g c = record { lines = handed_and_left; run = λ n s. (many_keep n s).2; settings = λ n s. (many_keep n s).1 }
