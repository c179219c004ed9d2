use Rattle.column_widths.proofs.Common.{◌≡◌, ◌≤◌, ◌++◌, take, drop, spread}
use Rattle.column_widths.proofs.fill.spread.Given as goal

abbrev pub invariant-loop-need : goal.invariant-loop-need
invariant-loop-need l = record {
  done : take l.need-index l.columns ++ spread l.bound l.each l.rest (drop l.need-index l.fn.columns)
      ≡ spread l.bound l.each l.fn.rest l.fn.columns;
  left : drop l.need-index l.columns ≡ drop l.need-index l.fn.columns;
  fewer : l.rest ≤ l.fn.rest;
}
