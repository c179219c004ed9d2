use Rattle.tbr_wrap.proofs.Common.{◌+◌, refl, ap, arith, items_width}
use Rattle.tbr_wrap.proofs.lines.CountedMarkers.{markers_within}
use Rattle.tbr_wrap.proofs.lines.HeldLines.{holds_more}
use Rattle.tbr_wrap.proofs.lines.LaidByRule.{lays_extended}
use Rattle.tbr_wrap.proofs.laid_lines.LaidLines.place_word.Goals as goal

pub overflow_add-self : goal.overflow_add-self
overflow_add-self g c =
    omega (arith, c.in-Some.ensures, c.in_ok-items.ensures, c.in_ok-markers.ensures.markers, markers_within c.args.self.now.flat.word, c.args.self.now.marked)

pub invariant_of-self-2-clause-marked : goal.invariant_of-self-2-clause-marked
invariant_of-self-2-clause-marked g c =
    omega (arith, c.in-Some.ensures, c.in_ok-items.ensures, c.in_ok-markers.ensures.markers, markers_within c.args.self.now.flat.word, c.args.self.now.marked)

pub returns-clause-placed : goal.returns-clause-placed
returns-clause-placed g c = λ columns js word e before given r h.
    lays_extended columns g.T.PartialEq.eq g.met.T.Eq.laws c.args.self.now _
    (record { width = refl; may_overflow = refl }) before given r h c.args.self.now.flat.word js
    (items_width columns js) word refl (omega (arith, e, c.requires.room))
    (holds_more c.args.self.now _ before h.laid c.args.self.now.flat.word (items_width columns js) h.holds
    (ap (λ f. f.placed) c.in_ok-markers.ensures.placed) refl
    (omega (arith, c.in-Some.ensures, c.in-Some.is, c.in_ok-items.ensures))
    (ap (λ n. c.args.self.now.line_markers + n) c.in_ok-markers.ensures.markers) (omega (arith, e)))
