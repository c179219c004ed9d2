use Rattle.tbr_model.proofs.Common.{◌≡◌, suc, ◌∷◌, length, get_or, drop, sym, subst, add-one, arith, slice_range, length-map, slot_value, slot_values, IsLegalLine, IsLegalLayout}
use Rattle.std.proofs.Common.{drop-cons}
use Rattle.tbr_model.proofs.layouts.Cuts.{LegalAfter, legal_from_first, legal_on, rises_below}
use Rattle.tbr_model.proofs.layouts.StoredSlots.{slot_values_part}
use Rattle.tbr_model.proofs.layout.is_legal.Goals as goal
use Rattle.tbr_model.proofs.layout.is_legal.Goals.{then-to-from-via-then-to-from, then-to-from-via-else-to-from+then-slots-to, then-to-from-via-else-to-from+else-slots-to+then-not-is_legal_line}

pub loop-to-init : goal.loop-to-init
loop-to-init g c =
    let later = c.in-Some.later.now in
    let split = c.in-Some.ensures.cases.0 in
    let zero = c.if-first-ne0.false in
    let e : c.args.cuts.now ≡ 0 ∷ later = cc in
    rw e (legal_from_first c.args.width (slot_values c.args.slots.now) later)

pub returns-then-to-from : goal.returns-then-to-from
returns-then-to-from g c =
    let slots = slot_values c.args.slots.now in
    let later = c.in-Some.later.now in
    let to = get_or later c.loop-to.to-index 0 in
    let e : drop c.loop-to.to-index later ≡ to ∷ drop (suc c.loop-to.to-index) later = drop-cons later c.loop-to.to-index 0 c.loop-to-test.true in
    let left = λ (h : IsLegalLayout c.args.width slots c.args.cuts.now). subst (LegalAfter c.args.width slots c.loop-to.from) e (c.loop-to.invariant.0 h) in
    elim c.then-to-from.branch [
      | then-to-from-via-then-to-from w ↦ (λ t. cc, λ h. absurd (omega (arith, w.if-to-from.true, (left h).0.0)))
      | then-to-from-via-else-to-from+then-slots-to w ↦
          (λ t. cc, λ h. absurd (omega (arith, w.if-slots-to.true, length-map c.args.slots.now slot_value, rises_below to (length slots) (drop (suc c.loop-to.to-index) later) (left h).0.1)))
      | then-to-from-via-else-to-from+else-slots-to+then-not-is_legal_line w ↦
          (λ t. cc, λ h. let legal = w.is_legal_line.ensures.1 (rw slot_values_part (left h).1.0) in let no = w.if-not-is_legal_line.true in cc)
    ]

pub loop-to-preserved : goal.loop-to-preserved
loop-to-preserved g c =
    let slots = slot_values c.args.slots.now in
    let later = c.in-Some.later.now in
    let from = c.loop-to.from in
    let to = get_or later c.loop-to.to-index 0 in
    let ds = drop (suc c.loop-to.to-index) later in
    let e : drop c.loop-to.to-index later ≡ to ∷ ds = drop-cons later c.loop-to.to-index 0 c.loop-to-test.true in
    let legal : IsLegalLine c.args.width (slice_range slots from to) = rw slot_values_part at (c.is_legal_line.ensures.0 c.if-not-is_legal_line.false) in
    let on = legal_on c.args.width slots from to ds c.if-to-from.false legal in
    rw add-one (
      (λ h. on.0 (subst (LegalAfter c.args.width slots from) e (c.loop-to.invariant.0 h))),
      (λ k. c.loop-to.invariant.1 (subst (LegalAfter c.args.width slots from) (sym e) (on.1 k))),
    )
