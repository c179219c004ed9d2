use Rattle.tbr_wrap.proofs.Common.{◌≡◌, ◌<◌, Ok, true, [], length, refl, ap, ◌∙◌, sym, subst, IfSome, rules, items_of, SameItems, IsMerged, same_items_trans, Block, left, HoldsRun, block_of}
use Rattle.std.proofs.lemmas.Result.{IfOk-at_ok}
use Rattle.tbr_wrap.proofs.runs.HeldRuns.{no_lines, holds_handed, first_shown, left_shown, some_left, none_left, none_held, some_held, laid}
use Rattle.tbr_wrap.proofs.runs.Blocks.{led_on}
use Rattle.tbr_wrap.proofs.block.WrappedBlock.take_line.Goals as goal

pub returns-in_err-line-clause-none : goal.returns-in_err-line-clause-none
returns-in_err-line-clause-none g c = search (rules, none_left, c.self.invariant, c.self.view_is, c.requires.unfailed, c.take_line-taken.ensures.none, c.in_err-line.ensures.failed.0)

pub invariant_of-self-in_default : goal.invariant_of-self-in_default
invariant_of-self-in_default g c = λ live.
    let k = c.self.invariant (sym c.in_ok-line.ensures.ok.1 ∙ live) in
    let none : c.self.inside.wrapper.value.lines.ended.items ≡ [] = no_lines c.self.inside.wrapper.value.lines.ended.items (λ some.
    let f = some_left _ _ _ _ _ k some in
    IfOk-at_ok _ (c.in_ok-line.ensures.ok.0 ∙ ap Ok c.in_default.is) (rw c.deref_mut.ensures.value at c.take_line-taken.ensures.taken k.before (laid _ _ _ _ _ k) f.0 f.1 k.stands.lays.holds f.2)) in
    let columns = g.W.CharWidth.columns in let r = c.self.inside in
    rw (c.deref_mut.ensures.value, (rw c.deref_mut.ensures.value at c.take_line-taken.ensures.none none).1)
    (subst (λ f. HoldsRun columns g.T.PartialEq.eq r.wrapper.value r.begun (record (block_of columns r) { failure = f })) (sym c.in_ok-line.ensures.ok.1) k)

pub returns-in_default-clause-some : goal.returns-in_default-clause-some
returns-in_default-clause-some g c = λ text rest e.
    let k = c.self.invariant (ap (λ (s : Block g.row.T.Denot). s.failure) c.self.view_is ∙ c.requires.unfailed) in
    let none : c.self.inside.wrapper.value.lines.ended.items ≡ [] = no_lines c.self.inside.wrapper.value.lines.ended.items (λ some.
    let f = some_left _ _ _ _ _ k some in
    IfOk-at_ok _ (c.in_ok-line.ensures.ok.0 ∙ ap Ok c.in_default.is) (rw c.deref_mut.ensures.value at c.take_line-taken.ensures.taken k.before (laid _ _ _ _ _ k) f.0 f.1 k.stands.lays.holds f.2)) in
    some_held _ _ _ _ _ k none text rest (ap (left g.W.CharWidth.columns) c.self.view_is ∙ e)

pub invariant_of-self-2 : goal.invariant_of-self-2
invariant_of-self-2 g c = λ live.
    let columns = g.W.CharWidth.columns in let r = c.self.inside in
    let t =
    record r {
      wrapper = record r.wrapper { value = record r.wrapper.value { lines = c.take_line-taken.new.self } };
      failure = c.keep_want.new.failure;
      begun = true;
      changes = c.appended-self-inside.result;
    } in
    let before = sym c.in_ok-line.ensures.ok.1 ∙ live in
    let k = c.self.invariant before in
    let was = c.in_ok-line.ensures.ok.0 ∙ ap Ok c.in-Some.is in
    let some = IfOk-at_ok (λ o. IfSome o (λ _. 0 < length r.wrapper.value.lines.ended.items)) was (rw c.deref_mut.ensures.value at c.take_line-taken.ensures.some) in
    let limits = rw c.deref_mut.ensures.value at c.take_line-taken.ensures.limits in let f = some_left _ _ _ _ _ k some in
    let taken = IfOk-at_ok _ was (rw c.deref_mut.ensures.value at c.take_line-taken.ensures.taken k.before (laid _ _ _ _ _ k) f.0 f.1 k.stands.lays.holds f.2) in
    rw c.deref_mut.ensures.value (subst (HoldsRun columns g.T.PartialEq.eq _ true)
    (sym (led_on columns r t _ limits refl c.appended-self-inside.ensures before live))
    (holds_handed _ _ _ _ _ k c.take_line-taken.new.self limits f.0 f.1 f.2 taken.2 some))

pub returns-clause-some : goal.returns-clause-some
returns-clause-some g c = λ text rest e.
    let k = c.self.invariant (ap (λ (s : Block g.row.T.Denot). s.failure) c.self.view_is ∙ c.requires.unfailed) in
    let f = first_shown (SameItems g.T.PartialEq.eq) _ _ text rest (ap (left g.W.CharWidth.columns) c.self.view_is ∙ e) (left_shown _ _ _ _ _ k) in
    let t =
    IfOk-at_ok _ (c.in_ok-line.ensures.ok.0 ∙ ap Ok c.in-Some.is)
    (rw c.deref_mut.ensures.value at c.take_line-taken.ensures.taken k.before (laid _ _ _ _ _ k) f.0 f.1
    k.stands.lays.holds f.2) in
    same_items_trans g.T.PartialEq.eq g.met.T.Eq.laws (items_of c.in-Some.line) f.0 text t.0 f.3

pub returns-clause-merged : goal.returns-clause-merged
returns-clause-merged g c =
    let k = c.self.invariant (ap (λ (s : Block g.row.T.Denot). s.failure) c.self.view_is ∙ c.requires.unfailed) in
    let was = c.in_ok-line.ensures.ok.0 ∙ ap Ok c.in-Some.is in
    let some = IfOk-at_ok (λ o. IfSome o (λ _. 0 < length c.self.inside.wrapper.value.lines.ended.items)) was (rw c.deref_mut.ensures.value at c.take_line-taken.ensures.some) in
    let f = some_left _ _ _ _ _ k some in
    let t = IfOk-at_ok _ was (rw c.deref_mut.ensures.value at c.take_line-taken.ensures.taken k.before (laid _ _ _ _ _ k) f.0 f.1 k.stands.lays.holds f.2) in
    λ line e. let same : c.in-Some.line ≡ line = cc in subst (λ l. IsMerged g.T.PartialEq.eq l) same t.1

pub returns-clause-none : goal.returns-clause-none
returns-clause-none g c = search (rules, IfOk-at_ok, none_held, c.self.invariant, c.self.view_is, c.requires.unfailed, c.in_ok-line.ensures.ok.0, c.in-Some.is, c.take_line-taken.ensures.some)
