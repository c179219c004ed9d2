use Rattle.tbr_flat.proofs.Common.{◌≤◌, ap, ◌∙◌, refl, arith, MarkerPlaces, before_first, shortened}
use Rattle.tbr_flat.proofs.MarkedItems.{marked_shortened}
use Rattle.tbr_flat.proofs.MarkedText.{character_first}
use Rattle.tbr_flat.proofs.flat_text.FlatText.move_piece.Goals as goal

pub move_text-requires-clause-some : goal.move_text-requires-clause-some
move_text-requires-clause-some g c =
    let some = character_first c.self.inside.text.placed c.self.inside.placed c.self.invariant.0 (omega (arith, c.requires.some, rw (← c.self.view_is) at c.requires.placed)) c.in_default.ensures.1 in
    omega (arith, some, c.requires.some, c.before-2.ensures, ap before_first c.in_default.ensures.0, c.min.ensures)

pub returns-in-Ok-clause-rest : goal.returns-in-Ok-clause-rest
returns-in-Ok-clause-rest g c =
    let count = c.in-Ok.count in
    let within : count ≤ before_first c.self.inside.placed = omega (arith, c.in-Ok.ensures.some.1, c.min.ensures, c.before-2.ensures, ap before_first c.in_default.ensures.0) in
    let shorter = c.remove_first.ensures ∙ ap (λ (m : MarkerPlaces). shortened count m) c.in_default.ensures.0 in
    rw (← c.self.view_is, c.in-Ok.ensures.rest, shorter, marked_shortened c.self.inside.text.placed c.self.inside.placed count within c.self.invariant.0) refl
