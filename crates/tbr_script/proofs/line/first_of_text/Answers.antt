use Rattle.std.proofs.Common.{ap, ◌∙◌, arith, rules, tests}
use Rattle.std.proofs.lemmas.Bool.{eqb-true}
use Rattle.std.proofs.lemmas.Str.{lead_after_ascii}
use Rattle.tbr_script.specs.Script.{lines_of}
use Rattle.tbr_script.proofs.FirstLine.{one_line, line_before}
use Rattle.tbr_script.proofs.Texts.{parted_at}
use Rattle.tbr_script.proofs.line.first_of_text.Goals as goal

pub range_from-requires : goal.range_from-requires
range_from-requires c = search (rules, eqb-true, lead_after_ascii, c.as_bytes.ensures.value, c.in-Some.ensures)

pub returns-in-Some-clause-line : goal.returns-in-Some-clause-line
returns-in-Some-clause-line c =
    let found = rw c.as_bytes.ensures.value at c.in-Some.ensures in
    let parts = parted_at 10 c.args.text.now _ _ c.in-Some.end found.0.high (eqb-true _ 10 found.1)
    (λ i lt is. found.0.before i (omega arith) lt (search (rules, tests, is))) c.range.ensures.value c.range_from.ensures.value in
    ap lines_of parts.0 ∙ line_before _ _ parts.1

pub returns-in-None-clause-line : goal.returns-in-None-clause-line
returns-in-None-clause-line c =
    let none = rw c.as_bytes.ensures.value at c.in-None.ensures in
    one_line c.args.text.now (search (rules, tests, c.if-is_empty.ensures)) (λ i lt is. none i (omega arith) lt (search (rules, tests, is)))
