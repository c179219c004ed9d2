use Rattle.tbr_flat.proofs.Common.{◌≤◌, ◌++◌, sym, subst, ap, ◌∙◌, refl, arith, items_of, SameItems, HasGrown, element_of, grown_same, MarkerPlaces, before_first, shortened}
use Rattle.tbr_tagged.specs.declared.element.TaggedLineElement.TheVariants.{FragmentStart}
use Rattle.tbr_tagged.proofs.GrownLines.{grown_by_element}
use Rattle.tbr_flat.proofs.MarkedItems.{marked_shortened, taken_front}
use Rattle.tbr_flat.proofs.MarkedText.{character_first}
use Rattle.tbr_flat.proofs.flat_text.FlatText.move_element.Goals as goal

pub move_piece-requires-clause-some : goal.move_piece-requires-clause-some
move_piece-requires-clause-some g c =
    let some = character_first c.self.inside.text.placed c.self.inside.placed c.self.invariant.0 (omega (arith, c.requires.some, rw (← c.self.view_is) at c.requires.placed)) c.in_default.ensures.1 in
    omega (arith, some, c.requires.some, c.before-2.ensures, ap before_first c.in_default.ensures.0, c.min.ensures)

pub returns-in-Ok-clause-items : goal.returns-in-Ok-clause-items
returns-in-Ok-clause-items g c =
    let count = c.in-Ok.count in
    let within : count ≤ before_first c.self.inside.placed = omega (arith, c.in-Ok.ensures.some.1, c.min.ensures, c.before-2.ensures, ap before_first c.in_default.ensures.0) in
    rw (← c.self.view_is)
    (subst (λ is. SameItems g.T.PartialEq.eq (items_of c.move_piece.new.line) (items_of c.args.line.now ++ is))
    (sym (taken_front c.self.inside.text.placed c.self.inside.placed count within c.self.invariant.0))
    c.in-Ok.ensures.items)

pub returns-in-Ok-clause-rest : goal.returns-in-Ok-clause-rest
returns-in-Ok-clause-rest g c =
    let count = c.in-Ok.count in
    let within : count ≤ before_first c.self.inside.placed = omega (arith, c.in-Ok.ensures.some.1, c.min.ensures, c.before-2.ensures, ap before_first c.in_default.ensures.0) in
    let shorter = c.remove_first.ensures ∙ ap (λ (m : MarkerPlaces). shortened count m) c.in_default.ensures.0 in
    rw (← c.self.view_is, c.in-Ok.ensures.rest, shorter, marked_shortened c.self.inside.text.placed c.self.inside.placed count within c.self.invariant.0) refl

pub returns-in_err-push-clause-grown : goal.returns-in_err-push-clause-grown
returns-in_err-push-clause-grown g c = subst (HasGrown c.args.line.now) (sym c.in_err-push.ensures.err) (grown_same c.args.line.now)

pub returns-in-Some-clause-grown : goal.returns-in-Some-clause-grown
returns-in-Some-clause-grown g c =
    subst (HasGrown c.args.line.now) (sym c.in_ok-push.ensures.ok) (grown_by_element g.T.PartialEq.eq c.args.line.now (element_of (FragmentStart c.in-Some.name)))
