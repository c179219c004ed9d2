use Rattle.tbr_flat.proofs.Common.{◌<◌, ◌≤◌, ◌+◌, length, drop, refl, ap, ◌∙◌, sym, arith, zero, tags_of}
use Rattle.tbr_flat.proofs.RepeatedTags.{skip_part, stored_at, has_stored, parted}
use Rattle.tbr_flat.proofs.tags.Tags.remove_front.Goals as goal

pub returns-then-most-more-clause-rest : goal.returns-then-most-more-clause-rest
returns-then-most-more-clause-rest g c =
    let within : c.args.most ≤ length (tags_of c.self.inside.stored.items) = omega (arith, ap length c.self.view_is, c.requires.within) in
    (skip_part c.self.inside.stored.items zero c.args.most c.index.result.now c.index_mut.result.now _ c.requires.some within c.index.ensures c.index_mut.ensures.value c.if-most-more.true refl).1
    ∙ ap (drop c.args.most) c.self.view_is

pub returns-clause-rest : goal.returns-clause-rest
returns-clause-rest g c =
    let xs = c.self.inside.stored.items in let s = c.index.result.now in
    let some : 0 < length xs = has_stored xs zero (omega (arith, ap length c.self.view_is, c.requires.some, c.requires.within)) in
    ap tags_of c.pop_front.ensures.rest ∙ sym (parted xs (drop 1 xs) s (s.more + 1) zero (stored_at xs zero s some c.index.ensures) (omega arith)).1 ∙ ap (drop (s.more + 1)) c.self.view_is
