use Rattle.tbr_border.proofs.Common.{map, take, refl, map_push, hole_of, one_more, SameHole}
use Rattle.std.proofs.lemmas.List.Elements.{AllZip-push}
use Rattle.tbr_border.proofs.border.copied.Goals as goal

pub loop-span-preserved : goal.loop-span-preserved
loop-span-preserved g c =
    rw (
      c.in_ok-push.ensures.items,
      map_push,
      one_more hole_of c.args.holes.now c.loop-span.span-index c.span-item.result c.loop-span-test.true c.span-item.is,
    )
    (AllZip-push (SameHole g.T.PartialEq.eq) (map hole_of c.loop-span.copies.items) (map hole_of (take c.loop-span.span-index c.args.holes.now)) _ (hole_of c.span-item.result)
    c.loop-span.invariant (refl, refl, c.in_ok-clone.ensures.same))
