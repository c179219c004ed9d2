use Rattle.tbr_model.proofs.Common.{◌≡◌, true, ◌||◌, sym, ◌∙◌}
use Rattle.tbr_model.proofs.layouts.StoredSlots.{legal_line}
use Rattle.tbr_model.proofs.layout.is_legal_line.Goals as goal
use Rattle.tbr_model.proofs.layout.is_legal_line.Goals.{then-may_begin, else-may_begin}

pub returns-then-may_follow : goal.returns-then-may_follow
returns-then-may_follow g c =
    let first = c.in-Some.first.now in
    let iff = legal_line c.args.width c.args.line.now c.in-Some.others.now first c.in-Some.ensures.cases.0 in
    elim c.if-may_begin.branch [
      | then-may_begin w ↦
          let begins : (first.begins || first.wider) ≡ true = sym c.may_begin.ensures ∙ w.if-may_begin.true in
          (λ t. iff.1 (begins, sym w.may_follow.ensures ∙ (sym w.value-is ∙ c.if-may_follow.true), c.fits.ensures.0 t), λ h. c.fits.ensures.1 (iff.0 h).2)
      | else-may_begin w ↦ (let h = c.if-may_follow.true in cc)
    ]

pub returns-else-may_follow : goal.returns-else-may_follow
returns-else-may_follow g c =
    let first = c.in-Some.first.now in
    let iff = legal_line c.args.width c.args.line.now c.in-Some.others.now first c.in-Some.ensures.cases.0 in
    let no = c.if-may_follow.false in
    elim c.if-may_begin.branch [
      | then-may_begin w ↦ (λ t. cc, λ h. w.value-is ∙ (w.may_follow.ensures ∙ (iff.0 h).1))
      | else-may_begin w ↦ (λ t. cc, λ h. let begins = sym w.if-may_begin.false ∙ (c.may_begin.ensures ∙ (iff.0 h).0) in cc)
    ]
