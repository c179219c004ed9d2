use Rattle.tbr_tagged.proofs.Common.{ap, arith, width_of_text, element_of}
use Rattle.std.specs.Str.{chars}
use Rattle.std.proofs.lemmas.Result.{err_from_is_err_and}
use Rattle.tbr_tagged.proofs.ElementLoops.{one_more, one_and_rest, items_width-piece, items_width-marker}
use Rattle.tbr_tagged.proofs.elements.width_of.Goals as goal
use Rattle.tbr_tagged.proofs.elements.width_of.Goals.{in-Str+in_ok-more+in-Some, in_default}

pub returns-in_err-more : goal.returns-in_err-more
returns-in_err-more g c =
    let all = one_and_rest element_of c.args.elements.now c.loop-element.element-index c.element-item.result c.loop-element-test.true c.element-item.is in
    let p = err_from_is_err_and c.from_residual.result c.from_residual.ensures.1 in
    rw (p.1, all, c.in-Str.is, items_width-piece) (omega (arith, c.in_err-more.ensures, ap (λ bs. width_of_text g.W.CharWidth.columns (chars bs)) c.as_str.ensures.value))

pub returns-in_default-checked_add : goal.returns-in_default-checked_add
returns-in_default-checked_add g c =
    let all = one_and_rest element_of c.args.elements.now c.loop-element.element-index c.element-item.result c.loop-element-test.true c.element-item.is in
    let text = ap (λ bs. width_of_text g.W.CharWidth.columns (chars bs)) c.as_str.ensures.value in
    rw (all, c.in-Str.is, items_width-piece) (omega (arith, c.in_default-checked_add.ensures, c.in_ok-more.ensures, c.loop-element.invariant, text))

pub loop-element-preserved : goal.loop-element-preserved
loop-element-preserved g c =
    let more = one_more element_of c.args.elements.now c.loop-element.element-index c.element-item.result c.loop-element-test.true c.element-item.is in
    elim c.match-element.branch [
      | in-Str+in_ok-more+in-Some w ↦
          let text = ap (λ bs. width_of_text g.W.CharWidth.columns (chars bs)) w.as_str.ensures.value in
          rw (more, w.in-Str.is, w.width-is, items_width-piece) (omega (arith, w.in-Some.ensures, w.in_ok-more.ensures, c.loop-element.invariant, text))
      | in_default w ↦ rw (more, w.in_default.is, w.width-is, items_width-marker) c.loop-element.invariant
    ]
