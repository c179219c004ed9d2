use Rattle.tbr_border.proofs.Common.{map, AllZip, MapsHole, hole_of}
use Rattle.tbr_border.specs.Border.{Gives}
use Rattle.tbr_border.proofs.border.mapped_holes.Given as goal

abbrev pub invariant-loop-span : goal.invariant-loop-span
invariant-loop-span g l = AllZip (MapsHole (Gives (goal.F-post g l.f))) (map hole_of l.yielded) (map hole_of l.mapped.items)
