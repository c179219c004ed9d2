use Rattle.tbr_rows.proofs.Common.{ap, ◌∙◌, next_place}
use Rattle.tbr_rows.proofs.Seats.{side_by_side_push}
use Rattle.tbr_rows.proofs.columns.Columns.push.Goals as goal

pub invariant_of-self-2 : goal.invariant_of-self-2
invariant_of-self-2 g c =
    rw c.in_ok-push.ensures.items (side_by_side_push c.self.inside.cells.items _ c.self.invariant (c.in_ok-place.ensures ∙ ap next_place c.deref.ensures.value))

pub returns-clause-side_by_side : goal.returns-clause-side_by_side
returns-clause-side_by_side g c =
    rw c.in_ok-push.ensures.items (side_by_side_push c.self.inside.cells.items _ c.self.invariant (c.in_ok-place.ensures ∙ ap next_place c.deref.ensures.value))
