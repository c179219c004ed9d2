use Rattle.tbr_flat.proofs.Common.{length, unwrap_or, ap, ◌∙◌, sym, refl, arith, false≢true, glyph, marker, marked, shortened}
use Rattle.tbr_flat.proofs.MarkedItems.{first_marked}
use Rattle.tbr_flat.proofs.MarkerPlaces.{some_before, no_marks}
use Rattle.tbr_flat.proofs.flat_text.FlatText.first_width.Goals as goal

pub returns-then-begins_with_marker : goal.returns-then-begins_with_marker
returns-then-begins_with_marker g c =
    let first = c.begins_with_marker.ensures.0 c.if-begins_with_marker.true in
    rw (← c.self.view_is, first.2) (marker first.0, marked c.self.inside.text.word first.1, refl, refl)

pub returns-in_err-c : goal.returns-in_err-c
returns-in_err-c g c =
    let none = no_marks c.self.inside.word (c.self.invariant.1 ∙ ap length c.in_err-c.ensures)
    (λ name rest e. false≢true (sym c.if-begins_with_marker.false ∙ c.begins_with_marker.ensures.1 (name, rest, e))) in
    rw (c.from_residual.ensures, ← c.self.view_is, none) c.in_err-c.ensures

pub returns : goal.returns
returns g c =
    let m = c.self.inside.word in let k = c.in_ok-c.ensures in let i = glyph c.in_ok-c.c k.0 in
    let first = some_before m (omega (arith, c.self.invariant.1, ap length k.2))
    (λ name rest e. false≢true (sym c.if-begins_with_marker.false ∙ c.begins_with_marker.ensures.1 (name, rest, e))) in
    rw (← c.self.view_is, k.2)
    (i, marked k.1 (shortened 1 m).markers, first_marked i k.1 m first, c.unwrap_or.ensures ∙ ap (λ o. unwrap_or o 0) c.width.ensures)
