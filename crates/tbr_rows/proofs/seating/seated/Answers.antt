use Rattle.tbr_rows.proofs.Common.{ap, sym, ◌∙◌, eqb-true, nil_from_length, seated}
use Rattle.tbr_rows.proofs.Seats.{seated_none}
use Rattle.tbr_rows.proofs.seating.seated.Goals as goal

pub returns-then-is_empty : goal.returns-then-is_empty
returns-then-is_empty g c =
    let none = nil_from_length c.args.hanging (eqb-true _ _ (sym c.is_empty.ensures ∙ c.if-is_empty.true)) in
    sym (seated_none c.args.cells.items) ∙ ap (λ hs. seated hs c.args.cells.items) (sym none)
