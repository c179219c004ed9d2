use Rattle.tbr_view.proofs.Common.{sym, ap, ◌∙◌, refl, inl, inr, on_ok_weaker, bytes_of}
use Rattle.std.specs.Option.{option_map}
use Rattle.tbr_statements.specs.Statement.{statement_of}
use Rattle.tbr_statements.specs.Read.{statement_read}
use Rattle.tbr_view.proofs.session.Session.run_line.Goals as goal

pub returns-then-is_skipped-clause-does : goal.returns-then-is_skipped-clause-does
returns-then-is_skipped-clause-does g c = inl (sym c.is_skipped.ensures ∙ c.if-is_skipped.true, refl)

pub returns-in-Some-clause-does : goal.returns-in-Some-clause-does
returns-in-Some-clause-does g c =
    let asks = ap (λ line. statement_read (bytes_of line)) c.in-Ok.is ∙ sym c.in_ok-statement.ensures.read ∙ ap (option_map statement_of) c.in-Some.is in
    on_ok_weaker c.run_statement.result (λ h. inr (sym c.is_skipped.ensures ∙ c.if-is_skipped.false, (c.in-Some.statement, asks, h))) c.run_statement.ensures.does
