use Rattle.tbr_border.proofs.Common.{map, take, AllZip, SameHole, hole_of}
use Rattle.tbr_border.proofs.border.copied.Given as goal

abbrev pub invariant-loop-span : goal.invariant-loop-span
invariant-loop-span g l = AllZip (SameHole g.T.PartialEq.eq) (map hole_of l.copies.items) (map hole_of (take l.span-index l.holes))
