use Rattle.tbr_tagged.proofs.Common.{◌≡◌, length, elements_left}
use Rattle.tbr_tagged.specs.Walks.{strings_left}
use Rattle.tbr_tagged.proofs.iterators.TaggedStringsIterator.next.Given as goal

abbrev pub invariant-loop-element : goal.invariant-loop-element
invariant-loop-element g l = strings_left l.self ≡ strings_left l.fn.self

abbrev pub decreases-loop-element : goal.decreases-loop-element
decreases-loop-element g l = length (elements_left l.self.rest)
