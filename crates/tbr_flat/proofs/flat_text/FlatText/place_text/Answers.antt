use Rattle.tbr_flat.proofs.Common.{chars, length, ap, arith, rules, length-append, length-map, glyph, text_items}
use Rattle.tbr_flat.proofs.MarkedItems.{marked_more}
use Rattle.tbr_flat.proofs.MarkedText.{unmarked}
use Rattle.tbr_flat.proofs.flat_text.FlatText.place_text.Goals as goal

pub place_text-requires-clause-none : goal.place_text-requires-clause-none
place_text-requires-clause-none g c = (unmarked c.self.inside.text.word c.self.inside.word.markers (rw (← c.self.view_is) at c.requires.none)).0

pub invariant_of-self-in_default : goal.invariant_of-self-in_default
invariant_of-self-in_default g c =
    let p = c.in_default.ensures in
    let old = c.self.inside in
    let cs = chars c.args.text.now in
    let none = unmarked old.text.word old.word.markers (rw (← c.self.view_is) at c.requires.none) in
    rw (p.2, c.in_ok-add_characters.ensures.ok) (
      omega (arith, length-append old.text.placed (text_items cs p.0), length-map cs (λ ch. glyph ch p.0), c.requires.count, c.self.invariant.0),
      omega (arith, c.self.invariant.1, ap length none.0),
    )

pub returns : goal.returns
returns g c = search (rules, unmarked, marked_more, c.in_default.ensures, c.self.view_is, c.requires.none, c.self.invariant.0, c.in_ok-add_characters.ensures.ok)
