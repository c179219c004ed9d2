use Rattle.tbr_runner.proofs.Common.{◌≡◌, ◌∙◌, Ok, Err, refl, string_bytes, Plain, Trivial, Rich, lines_of}
use Rattle.std.proofs.lemmas.Result.{err_from_is_err_and}
use Rattle.tbr_runner.proofs.ShownLines.{shown_opened}
use Rattle.tbr_runner.proofs.ScriptRefusals.{if_err_is}
use Rattle.tbr_program.proofs.Results.{if_ok_then, if_err_then}
use Rattle.tbr_runner.proofs.runner.render_shown.Goals as goal

pub returns-in_ok-program-in-Plain-clause-text : goal.returns-in_ok-program-in-Plain-clause-text
returns-in_ok-program-in-Plain-clause-text g c =
    let columns = g.W.CharWidth.columns in let o = c.in_ok-opening in let p = c.in_ok-program-in-Plain in
    let script = g.B.AsSlice.items c.args.script in let same : c.of-lines.result ≡ script = c.of-lines.ensures ∙ c.as_slice.ensures in
    if_ok_then c.finish.result (λ text ends.
    let outcome = Ok (string_bytes text) in
    shown_opened c.args.raw columns Plain o.opening o.number (lines_of c.first_command.new.lines) _ outcome c.of-lines.result script same c.in-Plain.is
    (o.ensures.found c.args.raw columns) p.ensures.told ends) c.finish.ensures.text

pub returns-in_ok-program-in-Plain-clause-refusal : goal.returns-in_ok-program-in-Plain-clause-refusal
returns-in_ok-program-in-Plain-clause-refusal g c =
    let columns = g.W.CharWidth.columns in let o = c.in_ok-opening in let p = c.in_ok-program-in-Plain in
    let script = g.B.AsSlice.items c.args.script in let same : c.of-lines.result ≡ script = c.of-lines.ensures ∙ c.as_slice.ensures in
    if_err_then c.finish.result (λ e ends found.
    shown_opened c.args.raw columns Plain o.opening o.number (lines_of c.first_command.new.lines) _ (Err e) c.of-lines.result script same c.in-Plain.is
    (o.ensures.found c.args.raw columns) p.ensures.told (ends found)) c.finish.ensures.refused

pub returns-in_ok-program-in-Trivial-clause-text : goal.returns-in_ok-program-in-Trivial-clause-text
returns-in_ok-program-in-Trivial-clause-text g c =
    let columns = g.W.CharWidth.columns in let o = c.in_ok-opening in let p = c.in_ok-program-in-Trivial in
    let script = g.B.AsSlice.items c.args.script in let same : c.of-lines.result ≡ script = c.of-lines.ensures ∙ c.as_slice.ensures in
    if_ok_then c.finish-in-Trivial.result (λ text ends.
    let outcome = Ok (string_bytes text) in
    shown_opened c.args.raw columns Trivial o.opening o.number (lines_of c.first_command.new.lines) _ outcome c.of-lines.result script same c.in-Trivial.is
    (o.ensures.found c.args.raw columns) p.ensures.told ends) c.finish-in-Trivial.ensures.text

pub returns-in_ok-program-in-Trivial-clause-refusal : goal.returns-in_ok-program-in-Trivial-clause-refusal
returns-in_ok-program-in-Trivial-clause-refusal g c =
    let columns = g.W.CharWidth.columns in let o = c.in_ok-opening in let p = c.in_ok-program-in-Trivial in
    let script = g.B.AsSlice.items c.args.script in let same : c.of-lines.result ≡ script = c.of-lines.ensures ∙ c.as_slice.ensures in
    if_err_then c.finish-in-Trivial.result (λ e ends found.
    shown_opened c.args.raw columns Trivial o.opening o.number (lines_of c.first_command.new.lines) _ (Err e) c.of-lines.result script same c.in-Trivial.is
    (o.ensures.found c.args.raw columns) p.ensures.told (ends found)) c.finish-in-Trivial.ensures.refused

pub returns-in_ok-program-in-Rich-clause-text : goal.returns-in_ok-program-in-Rich-clause-text
returns-in_ok-program-in-Rich-clause-text g c =
    let columns = g.W.CharWidth.columns in let o = c.in_ok-opening in let p = c.in_ok-program-in-Rich in
    let script = g.B.AsSlice.items c.args.script in let same : c.of-lines.result ≡ script = c.of-lines.ensures ∙ c.as_slice.ensures in
    if_ok_then c.finish-in-Rich.result (λ text ends.
    let outcome = Ok (string_bytes text) in
    shown_opened c.args.raw columns Rich o.opening o.number (lines_of c.first_command.new.lines) _ outcome c.of-lines.result script same c.in-Rich.is
    (o.ensures.found c.args.raw columns) p.ensures.told ends) c.finish-in-Rich.ensures.text

pub returns-in_ok-program-in-Rich-clause-refusal : goal.returns-in_ok-program-in-Rich-clause-refusal
returns-in_ok-program-in-Rich-clause-refusal g c =
    let columns = g.W.CharWidth.columns in let o = c.in_ok-opening in let p = c.in_ok-program-in-Rich in
    let script = g.B.AsSlice.items c.args.script in let same : c.of-lines.result ≡ script = c.of-lines.ensures ∙ c.as_slice.ensures in
    if_err_then c.finish-in-Rich.result (λ e ends found.
    shown_opened c.args.raw columns Rich o.opening o.number (lines_of c.first_command.new.lines) _ (Err e) c.of-lines.result script same c.in-Rich.is
    (o.ensures.found c.args.raw columns) p.ensures.told (ends found)) c.finish-in-Rich.ensures.refused

pub returns-in_err-program-in-Plain-clause-refusal : goal.returns-in_err-program-in-Plain-clause-refusal
returns-in_err-program-in-Plain-clause-refusal g c =
    let columns = g.W.CharWidth.columns in let o = c.in_ok-opening in let e = c.in_err-program-in-Plain.field-0.0 in
    let told = c.from_residual-in_err-program-in-Plain in let p = err_from_is_err_and told.result told.ensures.1 in
    let is : told.result ≡ Err e = cc (p.1, p.2) in
    let script = g.B.AsSlice.items c.args.script in let same : c.of-lines.result ≡ script = c.of-lines.ensures ∙ c.as_slice.ensures in
    if_err_is _ told.result e is (λ other.
    shown_opened c.args.raw columns Plain o.opening o.number (lines_of c.first_command.new.lines) (Err e) (Err e) c.of-lines.result script same c.in-Plain.is
    (o.ensures.found c.args.raw columns) (c.in_err-program-in-Plain.ensures.refusal other) refl)

pub returns-in_err-program-in-Trivial-clause-refusal : goal.returns-in_err-program-in-Trivial-clause-refusal
returns-in_err-program-in-Trivial-clause-refusal g c =
    let columns = g.W.CharWidth.columns in let o = c.in_ok-opening in let e = c.in_err-program-in-Trivial.field-0.0 in
    let told = c.from_residual-in_err-program-in-Trivial in let p = err_from_is_err_and told.result told.ensures.1 in
    let is : told.result ≡ Err e = cc (p.1, p.2) in
    let script = g.B.AsSlice.items c.args.script in let same : c.of-lines.result ≡ script = c.of-lines.ensures ∙ c.as_slice.ensures in
    if_err_is _ told.result e is (λ other.
    shown_opened c.args.raw columns Trivial o.opening o.number (lines_of c.first_command.new.lines) (Err e) (Err e) c.of-lines.result script same c.in-Trivial.is
    (o.ensures.found c.args.raw columns) (c.in_err-program-in-Trivial.ensures.refusal other) refl)
