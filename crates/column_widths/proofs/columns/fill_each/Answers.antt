use Rattle.column_widths.proofs.Common.{arith, ◌∙◌, sym, ap, true, false, List, drop, ◌+◌, fold, filter, Need, after_cell, is_of}
use Rattle.column_widths.proofs.Walks.{filter_step}
use Rattle.column_widths.proofs.columns.fill_each.Goals as goal
use Rattle.column_widths.proofs.columns.fill_each.Goals.{then-is_of, else-is_of}

pub loop-cell-preserved : goal.loop-cell-preserved
loop-cell-preserved c =
    let on = λ (ns : List Need). fold (after_cell c.args.line) ns (filter (is_of c.args.alone) (drop (c.loop-cell.cell-index + 1) c.args.cells.now)) in
    elim c.if-is_of.branch [
      | then-is_of w ↦
          let step =
          filter_step (after_cell c.args.line) (is_of c.args.alone) true c.loop-cell.needs c.args.cells.now
          c.loop-cell.cell-index record { column = 0; span = 0; least = 0; greatest = 0 } (omega arith)
          (sym c.is_of.ensures ∙ w.if-is_of.true) in
          ap on (w.needs-is ∙ w.fill_cell.ensures) ∙ sym step ∙ c.loop-cell.invariant
      | else-is_of w ↦
          let step =
          filter_step (after_cell c.args.line) (is_of c.args.alone) false c.loop-cell.needs c.args.cells.now
          c.loop-cell.cell-index record { column = 0; span = 0; least = 0; greatest = 0 } (omega arith)
          (sym c.is_of.ensures ∙ w.if-is_of.false) in
          ap on w.needs-is ∙ sym step ∙ c.loop-cell.invariant
    ]
