use Rattle.tbr_rows.proofs.Common.{◌≡◌, map, Some, ap, sym, ◌∙◌, subst, IfOk-weaker, AreSideBySide, row_fits, spot_of, with_hanging, seated}
use Rattle.tbr_rows.proofs.Seats.{seats_of_row}
use Rattle.tbr_rows.proofs.overhang.Overhang.seat.Goals as goal

seats : (g : _) (c : goal.After-seated g) →
    (with_hanging 0 c.args.self c.args.columns ≡ Some (seated c.self.inside.cells c.columns.inside.cells.items)) ×
    AreSideBySide 0 (seated c.self.inside.cells c.columns.inside.cells.items)
seats g c =
    let own = c.columns.inside.cells.items in
    let hanging = c.self.inside.cells in
    let same = ap (λ hs. row_fits hs (map spot_of own)) c.self.view_is ∙ ap (λ cs. row_fits c.args.self (map spot_of cs)) c.columns.view_is in
    let s = seats_of_row hanging own c.columns.invariant c.self.invariant (same ∙ c.requires) in
    (sym (ap (λ hs. with_hanging 0 hs own) c.self.view_is ∙ ap (with_hanging 0 c.args.self) c.columns.view_is) ∙ s.0, s.1)

pub returns-clause-cells : goal.returns-clause-cells
returns-clause-cells g c = IfOk-weaker c.seated.result _ _ (λ cells is. (seats g c).0 ∙ ap Some (sym is)) c.seated.ensures

pub returns-clause-side_by_side : goal.returns-clause-side_by_side
returns-clause-side_by_side g c = IfOk-weaker c.seated.result _ _ (λ cells is. subst (AreSideBySide 0) (sym is) (seats g c).1) c.seated.ensures
