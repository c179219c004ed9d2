use Rattle.tbr_rows.proofs.Common.{◌≡◌, take, drop, AllZip, FillsLine}
use Rattle.tbr_rows.proofs.columns.fill_all.Given as goal

abbrev pub invariant-loop-line : goal.invariant-loop-line
invariant-loop-line g l = record {
  filled : AllZip (FillsLine g.W.CharWidth.columns g.T.PartialEq.eq l.align l.width l.tag) (take l.line-index l.initial.lines) (take l.line-index l.lines);
  left : drop l.line-index l.lines ≡ drop l.line-index l.initial.lines;
}
