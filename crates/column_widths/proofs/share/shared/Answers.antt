use Rattle.column_widths.proofs.Common.{arith, ◌∙◌, ap, ◌≤◌, length, map, enumerate_from, take_all, length-enumerate_from, width_at}
use Rattle.column_widths.proofs.Shares.{shared_is, width_step}
use Rattle.column_widths.proofs.share.shared.Goals as goal

pub loop-place-preserved : goal.loop-place-preserved
loop-place-preserved c =
    let step =
    width_step
    (width_at c.args.extra c.total_slack-all.result c.left_over-left.result
    (enumerate_from 0 c.args.columns.now)) c.args.columns.now c.loop-place.place
    record { least = 0; greatest = 0 } (omega arith) in
    cc (step, c.in_ok-push.ensures.items, c.width_with.ensures, c.one_more-more.ensures.value)

pub returns : goal.returns
returns c =
    let columns = enumerate_from 0 c.args.columns.now in
    let end : length columns ≤ c.loop-place.place = rw length-enumerate_from (omega arith) in
    c.loop-place.invariant
    ∙ ap (λ xs. map (width_at c.args.extra c.total_slack-all.result c.left_over-left.result columns) xs)
    (take_all c.loop-place.place columns end)
    ∙ shared_is c.args.extra c.total_slack-all.result c.left_over-left.result c.args.columns.now
    c.total_slack-all.ensures c.left_over-left.ensures
