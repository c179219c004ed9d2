use Rattle.tbr_c.proofs.Common.{◌≡◌, Err, ap, ◌∙◌, sym, decoration_of, after_each, drawn_made}
use Rattle.std.proofs.Common.{subst}
use Rattle.std.specs.List.{AllByRecursion as Each}
use Rattle.std.proofs.lemmas.List.{take_all}
use Rattle.std.proofs.lemmas.Result.{err_from_is_err_and}
use Rattle.tbr_tagged.specs.declared.Error.TheVariants as refusal
use Rattle.tbr_script.specs.declared.error.RunError.TheVariants as unrun
use Rattle.tbr_tables.specs.Laws.{IsSized}
use Rattle.tbr_tables.specs.Recorded.{calls_in}
use Rattle.tbr_tables.specs.declared.drawn.Call.TheVariants.{Given}
use Rattle.tbr_recorded.proofs.Elements.{each_get_or}
use Rattle.tbr_recorded.proofs.Walks.{each_step, each_refused}
use Rattle.tbr_c.proofs.Facts.{asked_on_top}
use Rattle.tbr_c.proofs.drawing.draw.Goals as goal

pub loop-drawn-preserved : goal.loop-drawn-preserved
loop-drawn-preserved g c =
    let made = drawn_made (decoration_of g.D.TextDecorator g.D.Annotation.Tag.tells) c.args.raw c.args.script.now in (
      each_step made c.deref-drawn-items.result.now c.loop-drawn.drawn-index (record { step = 0; call = Given }) c.args.program.now c.loop-drawn.program c.loop-drawn-test.true c.loop-drawn.invariant.0
          ∙ c.in_ok-draw_one.ensures.drawn,
      c.in_ok-draw_one.ensures.goes_on,
    )

pub returns-in_err-draw_one-clause-refused : goal.returns-in_err-draw_one-clause-refused
returns-in_err-draw_one-clause-refused g c = λ narrow.
    let p = c.args.program.now in
    let made = drawn_made (decoration_of g.D.TextDecorator g.D.Annotation.Tag.tells) c.args.raw c.args.script.now in
    let width = c.width-room.ensures ∙ sym (asked_on_top 0 (λ r. r.width) p.stack c.top.result.now c.top.ensures) in
    let whole = c.deref-drawn-items.ensures.value ∙ c.in_ok-calls.ensures.calls ∙ ap (λ n. calls_in n c.args.script.now.recorded) width in
    let passed = err_from_is_err_and c.from_residual-in_err-draw_one.result c.from_residual-in_err-draw_one.ensures.1 in
    let is : c.in_err-draw_one.field-0.0 ≡ refusal.TooNarrow = cc (passed.1, passed.2, narrow) in
    ap (λ calls. after_each made calls p) (sym whole)
    ∙ each_refused made c.deref-drawn-items.result.now c.loop-drawn.drawn-index (record { step = 0; call = Given }) p c.loop-drawn.program unrun.TooNarrow
    c.loop-drawn-test.true c.loop-drawn.invariant.0 (c.draw_one.ensures.refused (c.in_err-draw_one.was ∙ ap Err is))

pub returns-clause-drawn : goal.returns-clause-drawn
returns-clause-drawn g c =
    let p = c.args.program.now in
    let made = drawn_made (decoration_of g.D.TextDecorator g.D.Annotation.Tag.tells) c.args.raw c.args.script.now in
    let width = c.width-room.ensures ∙ sym (asked_on_top 0 (λ r. r.width) p.stack c.top.result.now c.top.ensures) in
    let whole = take_all c.loop-drawn.drawn-index c.deref-drawn-items.result.now c.loop-drawn-test.false
    ∙ c.deref-drawn-items.ensures.value ∙ c.in_ok-calls.ensures.calls ∙ ap (λ n. calls_in n c.args.script.now.recorded) width in
    ap (λ calls. after_each made calls p) (sym whole) ∙ c.loop-drawn.invariant.0

pub draw_one-requires-clause-sized : goal.draw_one-requires-clause-sized
draw_one-requires-clause-sized g c =
    each_get_or IsSized c.deref-drawn-items.result.now c.loop-drawn.drawn-index (record { step = 0; call = Given }) c.loop-drawn-test.true
    (subst (Each IsSized) (sym c.deref-drawn-items.ensures.value) c.in_ok-calls.ensures.sized)
