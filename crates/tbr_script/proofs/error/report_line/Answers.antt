-- The parts are written one after another.
use Rattle.std.proofs.Common.{◌++◌, append_assoc, refl, sym, codes}
use Rattle.std.specs.Fmt.{decimal}
use Rattle.tbr_script.proofs.Writes.{appends_more, writes_more, beginning_after, beginning_of, stopped}
use Rattle.tbr_script.proofs.error.report_line.Goals as goal

pub returns-in_err-write_all-clause-line : goal.returns-in_err-write_all-clause-line
returns-in_err-write_all-clause-line g c =
    stopped _ c.from_residual.result _ _ _ c.from_residual.ensures.1 (beginning_of _ _ (codes "line ") _ _ refl c.in_err-write_all.ensures.written)

pub returns-in_err-write_decimal-clause-line : goal.returns-in_err-write_decimal-clause-line
returns-in_err-write_decimal-clause-line g c =
    let held = g.S.Sink.contents in
    let number = decimal c.args.number in
    stopped _ c.from_residual-in_err-write_decimal.result _ _ _ c.from_residual-in_err-write_decimal.ensures.1
    (beginning_of _ _ (codes "line " ++ number) (codes ": " ++ c.args.what.now) _ (sym (append_assoc (codes "line " ++ number) (codes ": ") c.args.what.now))
    (beginning_after (held c.args.sink.now) (held c.write_all.new.sink) (held c.write_decimal.new.sink) (codes "line ") number c.in_ok-write_all.ensures.written c.in_err-write_decimal.ensures.digits))

pub returns-in_err-write_all-2-clause-line : goal.returns-in_err-write_all-2-clause-line
returns-in_err-write_all-2-clause-line g c =
    let held = g.S.Sink.contents in
    let number = decimal c.args.number in
    let first = appends_more (held c.args.sink.now) (held c.write_all.new.sink) (held c.write_decimal.new.sink)
    (codes "line ") number c.in_ok-write_all.ensures.written c.in_ok-write_decimal.ensures.digits in
    stopped _ c.from_residual-in_err-write_all-2.result _ _ _ c.from_residual-in_err-write_all-2.ensures.1
    (beginning_of _ _ ((codes "line " ++ number) ++ codes ": ") c.args.what.now _ refl
    (beginning_after (held c.args.sink.now) (held c.write_decimal.new.sink) (held c.write_all-2.new.sink) (codes "line " ++ number) (codes ": ") first c.in_err-write_all-2.ensures.written))

pub returns-clause-line : goal.returns-clause-line
returns-clause-line g c =
    let held = g.S.Sink.contents in
    let number = decimal c.args.number in
    let first = appends_more (held c.args.sink.now) (held c.write_all.new.sink) (held c.write_decimal.new.sink)
    (codes "line ") number c.in_ok-write_all.ensures.written c.in_ok-write_decimal.ensures.digits in
    let all = appends_more (held c.args.sink.now) (held c.write_decimal.new.sink) (held c.write_all-2.new.sink) (codes "line " ++ number) (codes ": ") first c.in_ok-write_all-2.ensures.written in
    writes_more (held c.args.sink.now) (held c.write_all-2.new.sink) (held c.write_all-3.new.sink)
    c.write_all-3.result ((codes "line " ++ number) ++ codes ": ") c.args.what.now all c.write_all-3.ensures.written
