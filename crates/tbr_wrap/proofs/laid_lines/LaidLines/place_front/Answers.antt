use Rattle.tbr_wrap.proofs.Common.{◌≡◌, ◌≤◌, ◌+◌, take, refl, ap, ◌∙◌, arith, length-take-le, rules, items_width, SameItems, same_width, same_take}
use Rattle.tbr_wrap.proofs.lines.CountedMarkers.{markers_within}
use Rattle.tbr_wrap.proofs.lines.HeldLines.{holds_more}
use Rattle.tbr_wrap.proofs.lines.LaidByRule.{lays_extended}
use Rattle.tbr_wrap.proofs.words.WordsLaid.{put_fitting}
use Rattle.tbr_wrap.proofs.laid_lines.LaidLines.place_front.Goals as goal

pub overflow_add-self : goal.overflow_add-self
overflow_add-self g c = search (rules, markers_within, length-take-le, c.in_ok-front.ensures, c.in-Some.ensures)

pub invariant_of-self-2-clause-marked : goal.invariant_of-self-2-clause-marked
invariant_of-self-2-clause-marked g c = search (rules, markers_within, length-take-le, c.in_ok-front.ensures, c.in-Some.ensures)

pub returns-clause-put : goal.returns-clause-put
returns-clause-put g c =
    let columns = g.W.CharWidth.columns in let eq = g.T.PartialEq.eq in let laws = g.met.T.Eq.laws in
    let old = c.args.self.now in let e = c.in_ok-front.ensures in let n = c.in_ok-front.front.count in
    record {
      count = n;
      some = e.some c.requires.some (omega (arith, c.requires.room));
      word = ap (λ f. f.word) e.placed;
      put = λ js word before given r h.
          let front : SameItems eq (take n old.flat.word) (take n js) = same_take eq laws n old.flat.word js word in
          let wide : c.in_ok-front.front.columns ≡ items_width columns (take n js) = e.columns ∙ same_width columns eq (take n old.flat.word) (take n js) front in
          let fits : r.width + items_width columns (take n js) ≤ old.width = omega (arith, wide, e.room, h.holds.width, h.shows.width, old.fits) in
          rw (put_fitting columns old.width r (take n js) fits)
          (lays_extended columns eq laws old _ (record { width = refl; may_overflow = refl }) before given r h
          (take n old.flat.word) (take n js) (items_width columns (take n js)) front refl
          (omega (arith, wide, e.room, old.fits))
          (holds_more old _ before h.laid (take n old.flat.word) (items_width columns (take n js)) h.holds
          (ap (λ f. f.placed) e.placed) refl
          (omega (arith, c.in-Some.ensures, length-take-le n old.flat.word e.within))
          (ap (λ m. old.line_markers + m) e.markers) (omega (arith, wide))));
    }
