use Rattle.std.proofs.Common.{map}
use Rattle.tbr_tags.specs.Lists.{equal_lists}
use Rattle.tbr_tagged.specs.Elements.{IsMerged}
use Rattle.tbr_tagged.specs.View.{element_of}
use Rattle.tbr_annotations.specs.Written.{WritesItems}
use Rattle.tbr_annotations.proofs.written.written_line.Given as goal

abbrev pub invariant-loop-element : goal.invariant-loop-element
invariant-loop-element g l = record {
  items : WritesItems g.A.Tag.meaning (map element_of l.yielded) l.out;
  merged : IsMerged (equal_lists g.A.PartialEq.eq) l.out;
}
