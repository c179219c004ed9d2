use Rattle.column_widths.proofs.Common.{arith, ◌∙◌, sym, ap, true, false, ◌≤◌, length, enumerate_from, count_by, take_all, length-enumerate_from, is_ahead}
use Rattle.column_widths.proofs.Walks.{count_step}
use Rattle.column_widths.proofs.share.rank.Goals as goal
use Rattle.column_widths.proofs.share.rank.Goals.{then-is_ahead, else-is_ahead}

pub loop-other_place-preserved : goal.loop-other_place-preserved
loop-other_place-preserved c =
    elim c.if-is_ahead.branch [
      | then-is_ahead w ↦
          let more =
          count_step (is_ahead (c.args.place, c.args.need)) true c.args.columns.now c.loop-other_place.other_place
          record { least = 0; greatest = 0 } (omega arith) (sym c.is_ahead.ensures ∙ w.if-is_ahead.true) in
          record { counted = omega arith; fits = omega arith }
      | else-is_ahead w ↦
          let more =
          count_step (is_ahead (c.args.place, c.args.need)) false c.args.columns.now c.loop-other_place.other_place
          record { least = 0; greatest = 0 } (omega arith) (sym c.is_ahead.ensures ∙ w.if-is_ahead.false) in
          record { counted = omega arith; fits = omega arith }
    ]

pub returns : goal.returns
returns c =
    let columns = enumerate_from 0 c.args.columns.now in
    let end : length columns ≤ c.loop-other_place.other_place = rw length-enumerate_from (omega arith) in
    c.loop-other_place.invariant.counted ∙ ap (λ xs. count_by (is_ahead (c.args.place, c.args.need)) xs) (take_all c.loop-other_place.other_place columns end)
