use Rattle.std.proofs.Common.{◌≡◌}
use Rattle.tbr_annotations.specs.Chain.{equal_down}
use Rattle.tbr_annotations.proofs.chain.equal_chains.Given as goal

abbrev pub invariant-loop-a : goal.invariant-loop-a
invariant-loop-a g l =
    let equal = equal_down g.A.PartialEq.eq in equal l.fn.a l.fn.b ≡ equal l.a l.b
