use Rattle.callers.proofs.Common.{◌≡◌, true, false, ◌∙◌, sym, subst, map-id, err_from_is_err_and, YieldsList-from_vec, YieldsList-end, Counted}
use Rattle.callers.proofs.Counts.{HasTaken, goes_on, none_taken, one_more, stopped}
use Rattle.callers.proofs.counter.Counter.take_all.Goals as goal

pub loop-other-init : goal.loop-other-init
loop-other-init c = none_taken (λ (x : Counted). x) c.args.self.now (goes_on c.args.self.now.failed c.in_ok-refusal.field-0 c.in_ok-refusal.ensures)

pub loop-other-preserved : goal.loop-other-preserved
loop-other-preserved c =
    let taken = c.in_ok-take.ensures.ok in
    one_more (λ (x : Counted). x) c.args.self.now c.loop-other.self c.take.new.self c.loop-other.yielded c.in-Some.other c.loop-other.invariant taken.1 taken.2

pub returns-in_err-take-clause-err : goal.returns-in_err-take-clause-err
returns-in_err-take-clause-err c =
    let told = c.in_err-take.ensures.err in
    let kept = stopped (λ (x : Counted). x) c.args.self.now c.loop-other.self c.take.new.self c.loop-other.yielded c.loop-other.invariant told.1 in
    let (e, is, same) = err_from_is_err_and c.from_residual-in_err-take.result c.from_residual-in_err-take.ensures.1 in
    rw is (same ∙ told.0, kept.0, kept.1, λ was. let no : true ≡ false = sym was ∙ c.loop-other.invariant.0 in absurd (let none : ⊥ = cc in none))

pub returns-clause-ok : goal.returns-clause-ok
returns-clause-ok c =
    let given = c.into_iter-other-iterator.ensures.into_iter_gives in
    let list = YieldsList-from_vec c.args.others.items given.0 (given.1 ∙ c.args.others.ok.0) in
    let end = YieldsList-end list c.loop-other.yielded c.loop-other.other-iterator c.loop-other.yielded_by c.next.result c.next.new.self c.in-None.is c.next.ensures.steps in
    subst (λ xs. HasTaken (λ (x : Counted). x) c.args.self.now xs c.loop-other.self) (sym (map-id c.loop-other.yielded) ∙ end.0) c.loop-other.invariant
