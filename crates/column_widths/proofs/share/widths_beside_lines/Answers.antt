use Rattle.column_widths.proofs.Common.{arith, ◌∙◌, sym, ap, Some, ℕ, shared}
use Rattle.column_widths.proofs.Cases.{widths_between}
use Rattle.column_widths.proofs.share.widths_beside_lines.Goals as goal

pub returns-in_ok-shared-in-None : goal.returns-in_ok-shared-in-None
returns-in_ok-shared-in-None c =
    let extra = λ (e : ℕ). shared e c.args.columns.now in
    ap Some (c.in_ok-shared-in-None.ensures ∙ ap extra c.in-Some.ensures.1)
    ∙ sym (widths_between c.args.room c.args.columns.now c.in-Some.ensures.0 (omega (arith, c.in-None.ensures)))
