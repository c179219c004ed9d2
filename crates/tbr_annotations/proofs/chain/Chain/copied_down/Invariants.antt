use Rattle.std.proofs.Common.{◌≡◌, List, ◌++◌, reverse}
use Rattle.std.specs.List.{AllZip}
use Rattle.tbr_annotations.specs.Chain.{annotations_of}
use Rattle.tbr_annotations.proofs.chain.Chain.copied_down.Given as goal

abbrev pub invariant-loop-chain : goal.invariant-loop-chain
invariant-loop-chain g l =
    (passed : List g.row.A.Denot) × (annotations_of l.fn.self ≡ annotations_of l.chain ++ passed)
    × AllZip g.A.Clone.is_clone passed (reverse l.copies.items)
