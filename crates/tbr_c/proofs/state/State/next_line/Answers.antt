use Rattle.tbr_c.proofs.NextLines.{taken_line}
use Rattle.tbr_c.proofs.state.State.next_line.Goals as goal

pub returns-in-Finished-clause-taken : goal.returns-in-Finished-clause-taken
returns-in-Finished-clause-taken c =
    rw c.in-Finished.is (taken_line c.in-Finished.lines c.next.new.self c.next.result c.next.ensures.taken c.next.ensures.some)
