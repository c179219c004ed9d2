use Rattle.tbr_renderer.proofs.Common.{subst, AllZip, on_ok_weaker, FillsKept}
use Rattle.tbr_renderer.proofs.PutRows.{all_by_themselves, all_in_text}
use Rattle.tbr_renderer.proofs.sub.rows.push_cell.Goals as goal

pub returns-in-Ok-clause-ok : goal.returns-in-Ok-clause-ok
returns-in-Ok-clause-ok g c =
    let a = c.args in
    let columns = g.W.CharWidth.columns in
    let eq = g.T.PartialEq.eq in
    on_ok_weaker c.push_ended.result
    (λ h. (
      h.0,
      subst (λ ls. AllZip (FillsKept columns eq a.align a.width a.tag.now) ls h.0) c.in-Ok.ensures.ended
          (all_in_text eq g.met.T.Eq.laws columns a.align a.width a.tag.now c.in-Ok.ended h.0 h.1),
      h.2,
    ))
    c.push_ended.ensures.ok

pub returns-in_ok-into_vec-in-Err-clause-ok : goal.returns-in_ok-into_vec-in-Err-clause-ok
returns-in_ok-into_vec-in-Err-clause-ok g c =
    let a = c.args in
    let columns = g.W.CharWidth.columns in
    let eq = g.T.PartialEq.eq in
    let each = c.in_ok-into_vec-in-Err in
    on_ok_weaker c.push.result
    (λ h. (
      h.0,
      subst (λ ls. AllZip (FillsKept columns eq a.align a.width a.tag.now) ls h.0) c.in-Err.ensures.kept
          (all_by_themselves eq g.met.T.Eq.laws columns a.align a.width a.tag.now each.field-0.items c.in-Err.lines h.0
          each.ensures.lines each.ensures.merged h.1),
      h.2,
    ))
    c.push.ensures.ok

pub returns-in-Ok-clause-side_by_side : goal.returns-in-Ok-clause-side_by_side
returns-in-Ok-clause-side_by_side g c = on_ok_weaker c.push_ended.result (λ _. c.push_ended.ensures.side_by_side) c.push_ended.ensures.ok

pub returns-in_ok-into_vec-in-Err-clause-side_by_side : goal.returns-in_ok-into_vec-in-Err-clause-side_by_side
returns-in_ok-into_vec-in-Err-clause-side_by_side g c = on_ok_weaker c.push.result (λ _. c.push.ensures.side_by_side) c.push.ensures.ok
