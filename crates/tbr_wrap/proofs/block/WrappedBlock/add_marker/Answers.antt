use Rattle.tbr_wrap.proofs.Common.{[], ◌∷◌, refl, ap, ◌∙◌, sym, subst, marker_entry, entry, enter, progress_of, HoldsRun, block_of, IsAtProgress}
use Rattle.std.proofs.Common.{string_bytes}
use Rattle.tbr_wrap.proofs.runs.HeldRuns.{holds_grown, given}
use Rattle.tbr_wrap.proofs.runs.Blocks.{led_on}
use Rattle.tbr_wrap.proofs.block.WrappedBlock.add_marker.Goals as goal

pub invariant_of-self-2 : goal.invariant_of-self-2
invariant_of-self-2 g c = λ live.
    let columns = g.W.CharWidth.columns in let eq = g.T.PartialEq.eq in let r = c.self.inside in
    let t = record r { wrapper = record r.wrapper { value = c.add_marker-added.new.self }; failure = c.keep_want.new.failure; changes = c.with_marker-changes.result.0 } in
    let name = string_bytes c.args.name in
    let done = c.in_ok-keep_want.ensures.ok in
    let was = sym done.1 ∙ live in
    let k = c.self.invariant was in
    let after = given _ _ _ _ _ k in
    let limits = rw c.deref_mut.ensures.value at c.add_marker-added.ensures.limits in
    let named = subst (λ n. IsAtProgress columns eq t.wrapper.value k.before after
    (enter columns r.wrapper.value.lines.width (progress_of columns (block_of columns r)) (marker_entry n)))
    (ap string_bytes c.with_marker-changes.ensures.name)
    (rw done.0 at (rw c.deref_mut.ensures.value at (c.add_marker-added.ensures.added columns) k.before after _ k.stands)) in
    subst (HoldsRun columns eq t.wrapper.value r.begun)
    (sym (led_on columns r t _ limits refl c.with_marker-changes.ensures.changes was live))
    (holds_grown _ _ _ _ _ k t.wrapper.value (entry (marker_entry name) ∷ []) named)
