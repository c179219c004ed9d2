use Rattle.tbr_wrap.proofs.Common.{◌≡◌, true, [], ◌∷◌, refl, ap, ◌∙◌, sym, subst, call, Progress, Block, lines, allows, HoldsRun, block_of}
use Rattle.tbr_wrap.proofs.runs.HeldRuns.{holds_grown}
use Rattle.tbr_wrap.proofs.runs.Blocks.{led_on, fit_allows, progress_grown}
use Rattle.tbr_wrap.proofs.block.WrappedBlock.begin_call.Goals as goal

pub invariant_of-self : goal.invariant_of-self
invariant_of-self g c = λ live.
    let columns = g.W.CharWidth.columns in
    let r = c.self.inside in let t = record r { wrapper = record r.wrapper { value = c.begin_call.new.self }; changes = c.appended-self-inside.result } in
    let k = c.self.invariant live in
    subst (HoldsRun columns g.T.PartialEq.eq t.wrapper.value r.begun)
    (sym (led_on columns r t _ (rw c.deref_mut.ensures.value at c.begin_call.ensures.limits) refl c.appended-self-inside.ensures live live))
    (holds_grown _ _ _ _ _ k t.wrapper.value (call ∷ []) (rw c.deref_mut.ensures.value at (c.begin_call.ensures.begun columns) _ _ _ k.stands))

pub returns-clause-allowed : goal.returns-clause-allowed
returns-clause-allowed g c =
    let columns = g.W.CharWidth.columns in let r = c.self.inside in
    let t = record r { wrapper = record r.wrapper { value = c.begin_call.new.self }; changes = c.appended-self-inside.result } in
    let live = ap (λ (s : Block g.row.T.Denot). s.failure) c.self.view_is ∙ c.requires in
    subst (λ (s : Block g.row.T.Denot). allows columns s (lines columns s) ≡ true)
    (sym
    (led_on columns r t _ (rw c.deref_mut.ensures.value at c.begin_call.ensures.limits) refl
    c.appended-self-inside.ensures live live))
    (ap (λ (p : Progress g.row.T.Denot). allows columns (block_of columns r) p.laid.done) (progress_grown columns (block_of columns r) (call ∷ []))
    ∙ fit_allows columns r.wrapper.value.lines.width r.wrapper.value.lines.may_overflow _ (c.self.invariant live).stands.lays.measured.done)
