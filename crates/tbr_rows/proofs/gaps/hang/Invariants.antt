use Rattle.tbr_rows.proofs.Common.{◌≡◌, map, FillsGaps, overhang, cell_in}
use Rattle.tbr_rows.proofs.gaps.hang.Given as goal

abbrev pub invariant-loop-column : goal.invariant-loop-column
invariant-loop-column g l = record {
  gaps : FillsGaps l.draws g.W.CharWidth.columns g.T.PartialEq.eq l.tag (map cell_in l.yielded) l.initial.next l.next;
  rest : l.rest ≡ overhang l.draws (map cell_in l.yielded);
}
