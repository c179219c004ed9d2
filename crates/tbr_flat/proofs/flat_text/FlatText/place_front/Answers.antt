use Rattle.tbr_flat.proofs.Common.{◌≤◌, take, ap, ◌∙◌, drop, sym, refl, arith, rules, take-append-drop, each_front, items_width, MarkerPlaces, before_first, shortened}
use Rattle.tbr_flat.proofs.MarkerPlaces.{first_within}
use Rattle.tbr_flat.proofs.MarkedItems.{characters_alone, marked_more, marked_push, marked_shortened, taken_front}
use Rattle.tbr_flat.proofs.MarkedText.{covered_pushed, character_first}
use Rattle.tbr_flat.proofs.flat_text.FlatText.place_front.Goals as goal

pub invariant_of-self-in-Some : goal.invariant_of-self-in-Some
invariant_of-self-in-Some g c = search (rules, covered_pushed, c.in-Some.ensures, c.push.ensures.ok, c.push.ensures.err, c.self.invariant.0, c.self.invariant.1)

pub returns-in-Some-clause-placed : goal.returns-in-Some-clause-placed
returns-in-Some-clause-placed g c = search (rules, marked_push, c.in-Some.ensures, c.self.view_is, c.in_ok-push.ensures.ok, c.self.invariant.0)

pub returns-clause-some : goal.returns-clause-some
returns-clause-some g c =
    let text = c.self.inside.text.word in let m = c.self.inside.word in
    rw (← c.self.view_is) (λ some fits.
    let first : 1 ≤ before_first m = character_first text m c.self.invariant.1 some c.in_default.ensures.1 in
    c.in_ok-count.ensures.some (omega (arith, first, c.requires, c.before-2.ensures, ap before_first c.in_default.ensures.0, c.min-longest.ensures))
    (omega (arith, first, first_within m, c.self.invariant.1))
    (omega (arith, fits, ap (items_width g.W.CharWidth.columns) (taken_front text m 1 first c.self.invariant.1))))

pub returns-clause-markers : goal.returns-clause-markers
returns-clause-markers g c =
    let within : c.in_ok-count.count ≤ before_first c.self.inside.word = omega (arith, c.in_ok-count.ensures.most, c.before-2.ensures, ap before_first c.in_default.ensures.0, c.min-longest.ensures) in
    let n = c.in_ok-count.count in let text = c.self.inside.text.word in
    rw (← c.self.view_is, taken_front text c.self.inside.word n within c.self.invariant.1)
    (sym (characters_alone (take n text) (each_front _ (take n text) (drop n text) (rw take-append-drop c.holds_characters.ensures.word))))

pub returns-clause-placed : goal.returns-clause-placed
returns-clause-placed g c =
    let n = c.in_ok-count.count in let text = c.self.inside.text in let p = c.self.inside.placed in let w = c.self.inside.word in
    let within : n ≤ before_first w = omega (arith, c.in_ok-count.ensures.most, c.before-2.ensures, ap before_first c.in_default.ensures.0, c.min-longest.ensures) in
    let shorter = c.remove_first.ensures ∙ ap (λ (m : MarkerPlaces). shortened n m) c.in_default.ensures.0 in
    rw (
      ← c.self.view_is,
      c.in_ok-count.ensures.placed,
      c.in_default-add_characters.ensures.ok,
      shorter,
      marked_more text.placed (take n text.word) p.markers (omega (arith, c.self.invariant.0)),
      marked_shortened text.word w n within c.self.invariant.1,
      taken_front text.word w n within c.self.invariant.1,
    ) refl
