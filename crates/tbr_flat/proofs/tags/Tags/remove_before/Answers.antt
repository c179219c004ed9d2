use Rattle.tbr_flat.proofs.Common.{◌≡◌, ◌<◌, ◌≤◌, ◌+◌, ◌-◌, ◌++◌, suc, length, take, drop, get_or, refl, ap, ◌∙◌, sym, arith, ℕ, take-take, tags_of}
use Rattle.tbr_flat.proofs.RepeatedTags.{cut, drop_on, has_stored, in_order, offset_in, parted, resized, stored_at, tags_of-append}
use Rattle.tbr_flat.proofs.tags.Tags.remove_before.Goals as goal
use Rattle.tbr_flat.proofs.tags.Tags.remove_before.Goals.{After-index_mut, After-end_at-first}

-- both places are in one stored tag
offsets : (g : _) (c : After-index_mut g) → (c.place_before-to.result.offset ≡ c.place_before-from.result.offset + c.args.count) × (c.place_before-to.result.offset ≤ c.index_mut.result.now.more)
offsets g c =
    let xs = c.self.inside.stored.items in let q = c.place_before-to.result in let s = c.index_mut.result.now in (
      omega (arith, c.place_before-from.ensures.tags, c.place_before-to.ensures.tags, ap (λ i. length (tags_of (drop i xs))) c.if-from-to.true),
      offset_in xs q.nth q.offset c.args.last s c.place_before-to.ensures (c.index_mut.ensures.value ∙ ap (λ i. get_or xs i s) c.if-from-to.true),
    )

pub overflow_sub-index_mut : goal.overflow_sub-index_mut
overflow_sub-index_mut g c = omega (arith, (offsets g c).0, (offsets g c).1)

pub returns-then-from-to : goal.returns-then-from-to
returns-then-from-to g c =
    let xs = c.self.inside.stored.items in let tags = c.args.self.now in let last = c.args.last in let s = c.index_mut.result.now in
    let i = c.place_before-from.result.nth in let a = c.place_before-from.result.offset in let b = c.place_before-to.result.offset in
    let o = offsets g (goal.at.returns-then-from-to g c).After-index_mut in let from = c.place_before-from.ensures.tags in
    let in_xs : i < length xs = has_stored xs i (omega (arith, from, c.if-count-eq0.false)) in
    let front = sym (cut xs tags i a (last + c.args.count) c.self.view_is from).0 in
    let after =
    sym
    ((cut xs tags i b last c.self.view_is (omega (arith, from, o.0))).1
    ∙
    (parted (drop i xs) (drop (suc i) xs) s b (suc s.more - b) (stored_at xs i s in_xs c.index_mut.ensures.value) (omega (arith, o.1))).1) in
    resized xs i a (suc s.more - a) (suc s.more - b) s _ in_xs c.index_mut.ensures.value (omega (arith, o.0, o.1)) (omega (arith, o.0, o.1)) refl ∙ (λ k. front k ++ after k)

-- the places are in two stored tags
next : (g : _) (c : After-end_at-first g) → c.place_before-from.result.nth < c.place_before-to.result.nth
next g c =
    let p = c.place_before-from.result in let q = c.place_before-to.result in
    let order =
    in_order c.self.inside.stored.items p.nth q.nth p.offset q.offset c.args.last c.args.count
    (omega (arith, c.if-count-eq0.false)) c.place_before-from.ensures c.place_before-to.ensures in
    omega (arith, order, c.if-from-to.false)

pub begin_at-requires : goal.begin_at-requires
begin_at-requires g c =
    let i = c.place_before-from.result.nth in let j = c.place_before-to.result.nth in let to = c.place_before-to.ensures in
    let less = next g (goal.at.begin_at-requires g c).After-end_at-first in
    let same = λ (m : ℕ) (h : i < m). ap (λ ys. length (tags_of ys)) (drop_on (suc i) m c.end_at-first.new.stored.items c.self.inside.stored.items h c.end_at-first.ensures.after) in (
      c.args.last,
      record {
        within = omega (arith, to.within, c.end_at-first.ensures.len);
        tags = same j less ∙ to.tags;
        inside = λ some. omega (arith, same (suc j) (omega (arith, less)), to.inside some);
      },
    )

pub drain-requires-clause-start_le_end : goal.drain-requires-clause-start_le_end
drain-requires-clause-start_le_end g c = omega (arith, next g (goal.at.drain-requires-clause-start_le_end g c).After-end_at-first, c.end_at-first.ensures.next.1)

pub returns : goal.returns
returns g c =
    let xs = c.self.inside.stored.items in let one = c.end_at-first.new.stored.items in let two = c.begin_at.new.stored.items in let tags = c.args.self.now in
    let p = c.place_before-from.result in let q = c.place_before-to.result in let first = c.end_at-first.result in let e = c.end_at-first.ensures in
    let less = next g (goal.at.returns g c).After-end_at-first in
    let same : take first two ≡ take first one =
    sym (take-take first q.nth two (omega (arith, e.next.1, less))) ∙ ap (take first) c.begin_at.ensures.front
    ∙ take-take first q.nth one (omega (arith, e.next.1, less)) in
    let front = ap tags_of same ∙ e.front ∙ sym (cut xs tags p.nth p.offset (c.args.last + c.args.count) c.self.view_is c.place_before-from.ensures.tags).0 in
    let after =
    c.begin_at.ensures.tags ∙ ap (λ ys. drop q.offset (tags_of ys)) (drop_on (suc p.nth) q.nth one xs less e.after)
    ∙ sym (cut xs tags q.nth q.offset c.args.last c.self.view_is c.place_before-to.ensures.tags).1 in
    ap tags_of (c.drop-drain.ensures.items ∙ c.drain.ensures.kept) ∙ tags_of-append (take first two) (drop q.nth two) ∙ (λ k. front k ++ after k)
