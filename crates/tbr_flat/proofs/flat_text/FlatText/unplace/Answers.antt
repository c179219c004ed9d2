use Rattle.tbr_flat.proofs.Common.{ap, ◌∙◌, arith, rules, string_bytes, covered}
use Rattle.tbr_flat.proofs.MarkedText.{marker_back, marker_left, line_back}
use Rattle.tbr_flat.proofs.flat_text.FlatText.unplace.Goals as goal

pub returns-in_default : goal.returns-in_default
returns-in_default g c = λ before line parts len none.
    let now = c.loop.self-inside in let inv = c.loop.invariant in
    absurd
    (marker_left now.text.placed _ _ before line now.placed c.loop.counter (rw (← inv.text) at c.holds_characters.ensures.placed) inv.placed_fits
    (rw parts at inv.items) (rw parts at inv.moved) (omega (arith, len)) none c.in_default.ensures.1)

pub invariant_of-self-in_err-push_first : goal.invariant_of-self-in_err-push_first
invariant_of-self-in_err-push_first g c =
    let now = c.loop.self-inside in let inv = c.loop.invariant in let e = c.in-Some.ensures in
    let t = marker_back now.text.placed now.text.word now.placed c.pop_last.new.self e.0 now.word.markers e.1 (string_bytes c.in-Some.name) inv.placed_fits e.2 e.3 in
    (t.0, ap covered c.in_err-push_first.ensures.err ∙ inv.word_fits)

pub loop-preserved : goal.loop-preserved
loop-preserved g c =
    let now = c.loop.self-inside in let inv = c.loop.invariant in let e = c.in-Some.ensures in
    let t = marker_back now.text.placed now.text.word now.placed c.pop_last.new.self e.0 now.word.markers e.1 (string_bytes c.in-Some.name) inv.placed_fits e.2 e.3 in
    rw c.in_ok-push_first.ensures.ok
    (record { text = inv.text; placed_fits = t.0; word_fits = omega (arith, inv.word_fits); items = t.1 ∙ inv.items; moved = omega (arith, t.2, inv.moved) })

pub returns : goal.returns
returns g c = search (rules, line_back, c.loop.invariant)
