use Rattle.tbr_flat.proofs.Common.{refl, arith}
use Rattle.tbr_flat.proofs.RepeatedTags.{ended}
use Rattle.tbr_flat.proofs.tags.end_at.Goals as goal

pub returns-clause-front : goal.returns-clause-front
returns-clause-front g c =
    ended c.args.stored.now.items c.args.place.nth c.args.place.offset c.requires.0 c.index_mut.result.now _ c.requires.1 (omega (arith, c.if-place-eq0.false)) c.index_mut.ensures.value refl
