use Rattle.std.proofs.Common.{arith, rules, tests}
use Rattle.tbr_commands.proofs.Commands.{escaped, as_it_is}
use Rattle.tbr_commands.proofs.command.as_written.Goals as goal

pub returns-in-Some : goal.returns-in-Some
returns-in-Some c =
    let found = rw c.as_bytes.ensures.value at c.in-Some.ensures in escaped c.args.writing.now c.in-Some.field-0 found.0.high (search (rules, tests, found.1))

pub returns-in-None : goal.returns-in-None
returns-in-None c =
    let none = rw c.as_bytes.ensures.value at c.in-None.ensures in
    as_it_is c.args.writing.now c.utf8.writing (λ k lt is. none k (omega arith) lt (search (rules, tests, is)))
