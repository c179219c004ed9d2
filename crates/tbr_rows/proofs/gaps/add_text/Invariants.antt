use Rattle.tbr_rows.proofs.Common.{◌≡◌, map, element_of, with_elements}
use Rattle.tbr_rows.proofs.gaps.add_text.Given as goal

abbrev pub invariant-loop-element : goal.invariant-loop-element
invariant-loop-element g l = l.border ≡ with_elements g.W.CharWidth.columns l.place l.initial.border (map element_of l.yielded)
