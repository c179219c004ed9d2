use Rattle.std.proofs.Common.{length, take, map, refl}
use Rattle.std.proofs.lemmas.List.{take-map, length-map}
use Rattle.tbr_annotations.proofs.annotations.Annotations.without_last.Goals as goal

pub returns : goal.returns
returns g c = rw (← c.self.view_is, c.in_ok-chain.ensures.annotations, c.below.ensures.annotations) (simp (take-map, length-map))
