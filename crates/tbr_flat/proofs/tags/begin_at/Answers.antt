use Rattle.tbr_flat.proofs.Common.{refl, arith}
use Rattle.tbr_flat.proofs.RepeatedTags.{offset_in, skip_part}
use Rattle.tbr_flat.proofs.tags.begin_at.Goals as goal

pub overflow_sub-index_mut : goal.overflow_sub-index_mut
overflow_sub-index_mut g c = offset_in c.args.stored.now.items c.args.place.nth c.args.place.offset c.requires.0 c.index_mut.result.now c.requires.1 c.index_mut.ensures.value

pub returns-then-place-gt0-clause-tags : goal.returns-then-place-gt0-clause-tags
returns-then-place-gt0-clause-tags g c =
    let xs = c.args.stored.now.items in let p = c.args.place in let s = c.index_mut.result.now in let read = c.index_mut.ensures.value in
    (skip_part xs p.nth p.offset s s _ c.if-place-gt0.true (omega (arith, c.requires.1.tags)) read read (offset_in xs p.nth p.offset c.requires.0 s c.requires.1 read) refl).1
