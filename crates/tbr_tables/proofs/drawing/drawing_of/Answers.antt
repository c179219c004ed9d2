use Rattle.std.proofs.Common.{arith, ◌∙◌, ap, sym, ◌≤◌, length, ℕ, get_or}
use Rattle.std.specs.Prelude.{fold}
use Rattle.std.specs.List.{enumerate_from}
use Rattle.std.proofs.lemmas.List.{take_all}
use Rattle.std.proofs.lemmas.List.FromFn.{length-enumerate_from}
use Rattle.tbr_tables.specs.declared.step.Step.{Step}
use Rattle.tbr_tables.specs.declared.step.Step.TheVariants.{Text}
use Rattle.tbr_tables.specs.Drawn.{Drawing, drawn_after, nothing_drawn}
use Rattle.tbr_tables.proofs.Walks.{fold_step}
use Rattle.tbr_tables.proofs.drawing.drawing_of.Goals as goal

pub loop-at-preserved : goal.loop-at-preserved
loop-at-preserved c =
    let f = λ (d : Drawing) (s : ℕ × Step). drawn_after c.args.shapes.now d s.0 s.1 in
    let step = fold_step f (nothing_drawn c.args.room) c.args.steps.now c.loop-at.at Text (omega arith) in
    c.in_ok-step.ensures ∙ ap (λ (d : Drawing). drawn_after c.args.shapes.now d c.loop-at.at (get_or c.args.steps.now c.loop-at.at Text)) c.loop-at.invariant ∙ sym step

pub returns : goal.returns
returns c =
    let steps = enumerate_from 0 c.args.steps.now in
    let end : length steps ≤ c.loop-at.at = rw length-enumerate_from (omega arith) in
    let f = λ (d : Drawing) (s : ℕ × Step). drawn_after c.args.shapes.now d s.0 s.1 in
    c.loop-at.invariant ∙ ap (fold f (nothing_drawn c.args.room)) (take_all c.loop-at.at steps end)
