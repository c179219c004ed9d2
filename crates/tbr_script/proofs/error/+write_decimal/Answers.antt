use Rattle.std.proofs.Common.{◌/◌, sym, arith, rules}
use Rattle.std.specs.Fmt.{decimal}
use Rattle.std.proofs.lemmas.Fmt.{decimal_step, decimal_digit}
use Rattle.tbr_script.proofs.Writes.{writes_more, beginning_of, stopped}
use Rattle.tbr_script.proofs.error.+write_decimal.Goals as goal
use Rattle.tbr_script.proofs.error.+write_decimal.Goals.{then-number-ge10+in_ok-write_decimal, else-number-ge10}

pub returns-in_err-write_decimal-clause-digits : goal.returns-in_err-write_decimal-clause-digits
returns-in_err-write_decimal-clause-digits g t c =
    stopped _ c.from_residual.result _ _ _ c.from_residual.ensures.1
    (beginning_of _ _ (decimal (c.args.number / 10)) _ _ (sym (decimal_step c.args.number (omega arith) (omega arith))) c.in_err-write_decimal.ensures.digits)

pub returns-clause-digits : goal.returns-clause-digits
returns-clause-digits g t c = search (rules, decimal_step, writes_more, decimal_digit, c.write_all.ensures.written)
