use Rattle.tbr_tagged.proofs.Common.{◌≡◌, fold, map, push_element, element_of}
use Rattle.tbr_tagged.proofs.tagged_line.TaggedLine.append.Given as goal

abbrev pub invariant-loop-element : goal.invariant-loop-element
invariant-loop-element g l = l.self ≡ fold (push_element g.T.PartialEq.eq) l.initial.self (map element_of l.yielded)
