use Rattle.tbr_tagged.proofs.Common.{◌≡◌, length, elements_left, characters_left}
use Rattle.tbr_tagged.proofs.iterators.CharsIterator.next.Given as goal

abbrev pub invariant-loop-c : goal.invariant-loop-c
invariant-loop-c g l = characters_left l.self ≡ characters_left l.fn.self

abbrev pub decreases-loop-c : goal.decreases-loop-c
decreases-loop-c g l = length (elements_left l.self.rest)
