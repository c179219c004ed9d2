use Rattle.tbr_flat.proofs.Common.{◌+◌, ◌≤◌, length, take, drop, refl, ap, ◌∙◌, sym, arith, zero, tags_of}
use Rattle.tbr_flat.proofs.RepeatedTags.{skip_part, parted}
use Rattle.tbr_flat.proofs.tags.Tags.take.Goals as goal

pub returns-then-most-index-clause-tags : goal.returns-then-most-index-clause-tags
returns-then-most-index-clause-tags g c =
    let xs = c.self.inside.stored.items in let s = c.index_mut-first.result.now in
    let within : c.args.most ≤ length (tags_of xs) = omega (arith, ap length c.self.view_is, c.requires.within) in
    rw (← c.self.view_is) (
      s.tag,
      g.met.T.Eq.laws.symm _ _ ∙ g.met.T.Tag.copies_equal _ _ c.in_ok-tag.ensures.cases,
      (skip_part xs zero c.args.most c.index.result.now s _ c.requires.some within c.index.ensures c.index_mut-first.ensures.value c.if-most-index.true refl).0,
    )

pub returns-then-most-index-clause-rest : goal.returns-then-most-index-clause-rest
returns-then-most-index-clause-rest g c =
    let within : c.args.most ≤ length (tags_of c.self.inside.stored.items) = omega (arith, ap length c.self.view_is, c.requires.within) in
    (skip_part c.self.inside.stored.items zero c.args.most c.index.result.now c.index_mut-first.result.now _
    c.requires.some within c.index.ensures c.index_mut-first.ensures.value c.if-most-index.true refl).1
    ∙ ap (drop c.args.most) c.self.view_is

pub returns-clause-tags : goal.returns-clause-tags
returns-clause-tags g c =
    let s = c.in-Some.first in (
      s.tag,
      g.met.T.Eq.laws.refl s.tag,
      ap (take (s.more + 1)) (sym c.self.view_is)
          ∙
          (parted c.self.inside.stored.items c.pop_front.new.self.items s (s.more + 1) zero c.in-Some.ensures.items (omega arith)).0,
    )
