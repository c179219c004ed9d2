use Rattle.column_widths.proofs.Common.{◌≡◌, drop, fold, filter, after_cell, is_of}
use Rattle.column_widths.specs.Needs.{after_cells}
use Rattle.column_widths.proofs.columns.fill_each.Given as goal

abbrev pub invariant-loop-cell : goal.invariant-loop-cell
invariant-loop-cell l =
    fold (after_cell l.line) l.needs (filter (is_of l.alone) (drop l.cell-index l.cells))
    ≡ after_cells l.line l.cells l.alone l.fn.needs
