use Rattle.std.proofs.Common.{ℕ, arith, rules, tests}
use Rattle.std.proofs.lemmas.Bool.{eqb-true}
use Rattle.std.proofs.lemmas.Str.{lead_after_ascii}
use Rattle.tbr_script.proofs.Texts.{plain_all, parted_at, up_to_escape}
use Rattle.tbr_script.proofs.escape.split_at_escape.Goals as goal

pub returns-in_err-at-clause-none : goal.returns-in_err-at-clause-none
returns-in_err-at-clause-none c = search (rules, ℕ, tests, plain_all, c.in_err-at.ensures, c.as_bytes.ensures.value)

pub range_from-requires : goal.range_from-requires
range_from-requires c = search (rules, eqb-true, lead_after_ascii, c.as_bytes.ensures.value, c.in_ok-at.ensures)

pub returns-clause-text : goal.returns-clause-text
returns-clause-text c =
    let first = rw c.as_bytes.ensures.value at c.in_ok-at.ensures in
    up_to_escape c.args.writing.now _ c.range_from.result.now (parted_at 92 c.args.writing.now _ _ c.in_ok-at.at first.0.high (eqb-true _ 92 first.1)
    (λ i lt is. first.0.before i (omega arith) lt (search (rules, tests, is))) c.range.ensures.value c.range_from.ensures.value)
