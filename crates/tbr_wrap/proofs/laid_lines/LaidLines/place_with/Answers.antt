use Rattle.tbr_wrap.proofs.Common.{◌++◌, ◌∙◌, refl, ap, arith, chars, length-map, glyph, items_width, text_items, same_items_append, same_texts}
use Rattle.std.proofs.lemmas.List.{length-append}
use Rattle.tbr_flat.proofs.MarkedItems.{text_markers}
use Rattle.tbr_wrap.proofs.lines.CountedMarkers.{markers_within}
use Rattle.tbr_wrap.proofs.lines.HeldLines.{holds_more}
use Rattle.tbr_wrap.proofs.lines.LaidByRule.{lays_extended}
use Rattle.tbr_wrap.proofs.laid_lines.LaidLines.place_with.Goals as goal

pub overflow_add-self : goal.overflow_add-self
overflow_add-self g c =
    omega (arith, c.in-Some.ensures, c.in-Some-checked_add.ensures, c.in_ok-items.ensures, c.in_ok-markers.ensures.markers, markers_within c.args.self.now.flat.word, c.args.self.now.marked)

pub invariant_of-self-2-clause-marked : goal.invariant_of-self-2-clause-marked
invariant_of-self-2-clause-marked g c =
    omega (arith, c.in-Some.ensures, c.in-Some-checked_add.ensures, c.in_ok-items.ensures, c.in_ok-markers.ensures.markers, markers_within c.args.self.now.flat.word, c.args.self.now.marked)

pub returns-clause-placed : goal.returns-clause-placed
returns-clause-placed g c = λ columns a js same word wide before given r h.
    let eq = g.T.PartialEq.eq in let laws = g.met.T.Eq.laws in let old = c.args.self.now in
    let cs = chars c.args.text.now in let p = c.in_ok-markers.ensures.placed in
    let stored = old.flat.word ++ text_items cs p.0 in
    let is = js ++ text_items cs a in
    lays_extended columns eq laws old _ (record { width = refl; may_overflow = refl }) before given r h stored is (items_width columns is)
    (same_items_append eq laws old.flat.word js (text_items cs p.0) (text_items cs a) word (same_texts eq laws cs p.0 a (laws.congr p.0 c.args.tag.now a p.1 ∙ same)))
    refl (omega (arith, wide, c.requires.room))
    (holds_more old _ before h.laid stored (items_width columns is) h.holds (ap (λ f. f.placed) p.2) refl
    (omega (
      arith,
      c.in-Some.ensures,
      c.in-Some.is,
      c.in-Some-checked_add.ensures,
      c.in-Some-checked_add.is,
      c.in_ok-items.ensures,
      length-append old.flat.word (text_items cs p.0),
      length-map cs (λ ch. glyph ch p.0),
      c.requires.count,
    ))
    (omega (arith, c.in_ok-markers.ensures.markers, text_markers old.flat.word cs p.0))
    (omega (arith, wide)))
