use Rattle.std.proofs.Common.{◌≡◌, List, ◌++◌, length}
use Rattle.tbr_annotations.specs.Chain.{annotations_of, CountsWell}
use Rattle.tbr_annotations.proofs.chain.Chain.below.Given as goal

abbrev pub invariant-loop : goal.invariant-loop
invariant-loop g l =
    (CountsWell l.fn.self → CountsWell l.chain) × (passed : List g.row.A.Denot) × (length passed ≡ l.counter)
    × (annotations_of l.fn.self ≡ annotations_of l.chain ++ passed)
