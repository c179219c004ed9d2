use Rattle.tbr_view.proofs.Common.{ℕ, ap, ◌∙◌, sym, subst, decoration_of, after_each, drawn_made}
use Rattle.std.specs.List.{AllByRecursion as Each}
use Rattle.std.proofs.lemmas.List.{take_all}
use Rattle.tbr_tables.specs.Laws.{IsSized}
use Rattle.tbr_tables.specs.Recorded.{calls_in}
use Rattle.tbr_tables.specs.declared.drawn.Drawn.{Drawn}
use Rattle.tbr_tables.specs.declared.drawn.Call.TheVariants.{Given}
use Rattle.tbr_recorded.proofs.Elements.{each_get_or}
use Rattle.tbr_recorded.proofs.Walks.{each_step}
use Rattle.tbr_view.specs.Tables.{width_of}
use Rattle.tbr_view.proofs.session.Session.draw.Goals as goal

pub loop-drawn-preserved : goal.loop-drawn-preserved
loop-drawn-preserved g c =
    let call = drawn_made g.W.CharWidth.columns (decoration_of g.D.TextDecorator g.D.Annotation.Tag.tells) c.args.table.now in
    let first : Drawn = record { step = 0; call = Given } in
    record {
      made = each_step call c.deref-drawn-items.result.now c.loop-drawn.drawn-index first c.args.self.now.program c.loop-drawn.self.program c.loop-drawn-test.true c.loop-drawn.invariant.made
          ∙ c.in_ok-draw_one.ensures.draws;
      live = c.in_ok-draw_one.ensures.live;
      inside = c.in_ok-draw_one.ensures.inside ∙ c.loop-drawn.invariant.inside;
    }

pub returns-clause-draws : goal.returns-clause-draws
returns-clause-draws g c =
    let p = c.args.self.now.program in
    let table = c.args.table.now in
    let columns = g.W.CharWidth.columns in
    let deco = decoration_of g.D.TextDecorator g.D.Annotation.Tag.tells in
    let call = drawn_made columns deco table in
    let width = c.width-room.ensures ∙ sym (ap (width_of columns deco) c.top.ensures) in
    let whole = take_all c.loop-drawn.drawn-index c.deref-drawn-items.result.now c.loop-drawn-test.false
    ∙ c.deref-drawn-items.ensures.value ∙ c.in_ok-calls.ensures.calls ∙ ap (λ (n : ℕ). calls_in n table.recorded) width in
    ap (λ calls. after_each call calls p) (sym whole) ∙ c.loop-drawn.invariant.made

pub draw_one-requires-clause-sized : goal.draw_one-requires-clause-sized
draw_one-requires-clause-sized g c =
    each_get_or IsSized c.deref-drawn-items.result.now c.loop-drawn.drawn-index (record { step = 0; call = Given }) c.loop-drawn-test.true
    (subst (Each IsSized) (sym c.deref-drawn-items.ensures.value) c.in_ok-calls.ensures.sized)
