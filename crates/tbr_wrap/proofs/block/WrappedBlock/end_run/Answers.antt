use Rattle.tbr_wrap.proofs.Common.{◌≡◌, ◌<◌, Err, refl, ap, ◌∙◌, sym, subst, rules, err_from_is_err_and, done, refused, answers_ok, live_goes, Block, all_lines, allows, flushed, after_flush}
use Rattle.tbr_wrap.proofs.Common.{settings_of, HoldsRun, block_of}
use Rattle.tbr_tagged.specs.declared.error.Error.TheVariants as E
use Rattle.tbr_tagged.proofs.Outcomes.{answers_err}
use Rattle.tbr_wrap.proofs.runs.HeldRuns.{holds_flushed}
use Rattle.tbr_wrap.proofs.runs.Blocks.{led_on, settings_kept, fit_allows, if_allowed, if_not_allowed, not_allowed}
use Rattle.tbr_wrap.proofs.runs.BlockLaws.{flush_best}
use Rattle.tbr_wrap.proofs.block.WrappedBlock.end_run.Given.{Over}
use Rattle.tbr_wrap.proofs.block.WrappedBlock.end_run.Goals.{After-keep}
use Rattle.tbr_wrap.proofs.block.WrappedBlock.end_run.Goals as goal

-- a line has at least a column
wide : (g : Over) (c : After-keep g) → 0 < c.args.self.now.width
wide g c = rw (← c.self.view_is) c.self.inside.wrapper.value.lines.positive

-- where the wrapper refuses, the block does
refused_end : (g : Over) (c : After-keep g) → c.finish.result ≡ Err E.TooNarrow → after_flush g.W.CharWidth.columns c.args.self.now ≡ refused E.TooNarrow
refused_end g c is =
    let columns = g.W.CharWidth.columns in let r = c.self.inside in let s = block_of columns r in
    let k = c.self.invariant (ap (λ (q : Block g.row.T.Denot). q.failure) c.self.view_is ∙ c.in_ok-refusal.ensures) in
    let wider = rw c.deref_mut.ensures.value at (c.finish.ensures.wider is) _ _ _ k.stands in
    rw (← c.self.view_is, live_goes s.failure _ (ap (λ (q : Block g.row.T.Denot). q.failure) c.self.view_is ∙ c.in_ok-refusal.ensures))
    (if_not_allowed columns (allows columns s (all_lines columns s)) (flushed columns s) (not_allowed columns s (all_lines columns s) wider.0 wider.1))

pub invariant_of-self-2 : goal.invariant_of-self-2
invariant_of-self-2 g c = λ live.
    let columns = g.W.CharWidth.columns in let r = c.self.inside in
    let t = record r { wrapper = record r.wrapper { value = c.finish.new.self }; failure = c.keep.new.failure; changes = c.appended-self-inside.result } in
    let was = c.in_ok-keep.ensures.ok in
    let before = sym was.1 ∙ live in
    let k = c.self.invariant before in
    let limits = rw c.deref_mut.ensures.value at c.finish.ensures.limits in
    subst (HoldsRun columns g.T.PartialEq.eq t.wrapper.value r.begun)
    (sym (led_on columns r t _ limits refl c.appended-self-inside.ensures before live))
    (holds_flushed _ _ _ _ _ k refl t.wrapper.value (rw was.0 at (rw c.deref_mut.ensures.value at c.finish.ensures.finished _ _ _ k.stands)))

-- where it doesn't, the block ends the run
done_end : (g : Over) (c : goal.After-self-2-1 g) →
    after_flush g.W.CharWidth.columns c.args.self.now ≡ done
    (block_of g.W.CharWidth.columns
    (record c.self.inside { wrapper = record c.self.inside.wrapper { value = c.finish.new.self }; failure = c.keep.new.failure; changes = c.appended-self-inside.result }))
done_end g c =
    let columns = g.W.CharWidth.columns in let r = c.self.inside in let s = block_of columns r in
    let t = record r { wrapper = record r.wrapper { value = c.finish.new.self }; failure = c.keep.new.failure; changes = c.appended-self-inside.result } in
    let was = c.in_ok-keep.ensures.ok in
    let live = ap (λ (q : Block g.row.T.Denot). q.failure) c.self.view_is ∙ c.in_ok-refusal.ensures in
    let k = c.self.invariant live in
    let e = rw was.0 at (rw c.deref_mut.ensures.value at c.finish.ensures.finished _ _ _ k.stands) in
    rw (← c.self.view_is, live_goes s.failure _ live, led_on columns r t _ (rw c.deref_mut.ensures.value at c.finish.ensures.limits) refl c.appended-self-inside.ensures live (was.1 ∙ live))
    (if_allowed columns (allows columns s (all_lines columns s)) (flushed columns s) (fit_allows columns r.wrapper.value.lines.width r.wrapper.value.lines.may_overflow _ e.fits))

pub returns-clause-answers : goal.returns-clause-answers
returns-clause-answers g c = search (rules, answers_ok, live_goes, done_end, settings_kept, c.in_ok-refusal.ensures, rw c.deref_mut.ensures.value at c.finish.ensures.limits, c.self.view_is)

pub returns-clause-best : goal.returns-clause-best
returns-clause-best g c = λ h.
    flush_best g.W.CharWidth.columns (g.met.W.CharWidth.drawn_in_one 32 refl) c.args.self.now (wide g (goal.at.returns-clause-best g c).After-keep) _ (done_end g c) h.1 h.2

pub returns-in_err-keep-clause-answers : goal.returns-in_err-keep-clause-answers
returns-in_err-keep-clause-answers g c =
    let r = c.self.inside in
    let t = record r { wrapper = record r.wrapper { value = c.finish.new.self }; failure = c.keep.new.failure } in
    let p = err_from_is_err_and c.from_residual-in_err-keep.result c.from_residual-in_err-keep.ensures.1 in
    answers_err _ _ _ _ p.0 _ _ p.1 c.in_ok-refusal.ensures
    (λ narrow. sym (live_goes c.args.self.now.failure _ c.in_ok-refusal.ensures) ∙ refused_end g
    (goal.at.returns-in_err-keep-clause-answers g c).After-keep (cc (p.2, narrow, c.in_err-keep.ensures.failed.0)))
    (cc (p.2, c.in_err-keep.ensures.failed.1))
    (settings_kept g.W.CharWidth.columns r t (rw c.deref_mut.ensures.value at c.finish.ensures.limits) refl ∙ ap settings_of c.self.view_is)
