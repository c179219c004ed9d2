use Rattle.tbr_c.proofs.Common.{Ok, Err, refl}
use Rattle.tbr_c.proofs.calls.tbr1_new.Goals as goal

pub returns-in-Ok : goal.returns-in-Ok
returns-in-Ok c = (Ok c.in-Ok.held.value, c.in-Ok.ensures.made, c.hand_back.ensures, c.status.ensures)

pub returns-in-Err : goal.returns-in-Err
returns-in-Err c = (Err c.in-Err.fault, c.in-Err.ensures.refused, refl, c.code.ensures)
