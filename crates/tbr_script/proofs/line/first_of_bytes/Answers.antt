use Rattle.std.proofs.Common.{arith, rules, tests}
use Rattle.tbr_script.proofs.FirstLine.{one_line, line_at}
use Rattle.tbr_script.proofs.line.first_of_bytes.Goals as goal

pub returns-in-Some-clause-line : goal.returns-in-Some-clause-line
returns-in-Some-clause-line c = search (rules, line_at, tests, c.in-Some.ensures)

pub returns-in-None-clause-line : goal.returns-in-None-clause-line
returns-in-None-clause-line c =
    one_line c.args.bytes.now (search (rules, tests, c.if-is_empty.ensures)) (λ i lt is. c.in-None.ensures i (omega arith) lt (search (rules, tests, is)))
