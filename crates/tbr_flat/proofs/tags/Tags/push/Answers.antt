use Rattle.tbr_flat.proofs.Common.{◌≡◌, ℕ, List, get_or, set, ◌-◌, ◌+◌, ◌++◌, suc, length, take, drop, replicate, refl, ap, ◌∙◌, sym, arith, append-nil, get_or_read, take_all, drop_all, on_ok_weaker}
use Rattle.tbr_flat.proofs.Common.{RepeatedTag, tags_of}
use Rattle.tbr_flat.proofs.RepeatedTags.{split_tags, resized, stored_len, tags_of-append, none_left}
use Rattle.tbr_flat.proofs.tags.Tags.push.Goals as goal

-- the last stored tag is repeated more
push_last : {A : Type 0} (xs : List (RepeatedTag A)) (i n : ℕ) (s y : RepeatedTag A) → suc i ≡ length xs →
    s ≡ get_or xs i s → y ≡ record s { more = s.more + n } → tags_of (set xs i y) ≡ tags_of xs ++ replicate n s.tag
push_last xs i n s y last is e =
    let len = stored_len xs i (suc i) s refl (omega arith) is in
    resized xs i (suc s.more) 0 n s y (omega arith) is (omega arith) (omega (arith, ap (λ z. z.more) e)) (ap (λ z. z.tag) e)
    ∙ (λ k. (tags_of (take i xs) ++ take_all (suc s.more) (tags_of (drop i xs)) (omega (arith, len, none_left xs (suc i))) k) ++ (replicate n s.tag ++ tags_of (drop_all (suc i) xs (omega arith) k)))
    ∙ (λ k. sym (split_tags xs i) k ++ append-nil (replicate n s.tag) k)

pub returns-then-eq-clause-ok : goal.returns-then-eq-clause-ok
returns-then-eq-clause-ok g c =
    let xs = c.self.inside.stored.items in let i = c.len-len.result - 1 in let s = c.index_mut.result.now in
    let last : suc i ≡ length xs = omega (arith, c.len-len.ensures, c.self.inside.stored.ok.0, c.if-len-gt0.true) in
    let same : c.index.result.now ≡ s = get_or_read xs i c.index.result.now (omega (arith, last)) c.index.ensures s ∙ sym c.index_mut.ensures.value in
    on_ok_weaker c.lengthen.result (λ h. (
      s.tag,
      ap (λ z. g.T.PartialEq.eq z.tag c.args.tag.now) (sym same) ∙ sym c.if-eq.ensures,
      push_last xs i c.args.count s c.lengthen.new.repeated last c.index_mut.ensures.value h ∙ ap (λ ts. ts ++ replicate c.args.count s.tag) c.self.view_is,
    )) c.lengthen.ensures.ok

pub returns-clause-ok : goal.returns-clause-ok
returns-clause-ok g c =
    let a = c.in_ok-tag.tag in let n : suc (c.args.count - 1) ≡ c.args.count = omega (arith, c.requires.some) in (
      a,
      g.met.T.Eq.laws.symm _ _ ∙ g.met.T.Tag.copies_equal _ _ c.in_ok-tag.ensures.cases,
      ap tags_of c.in_ok-push_back.ensures.items ∙ tags_of-append c.self.inside.stored.items _
          ∙ (λ k. c.self.view_is k ++ (append-nil (replicate (suc (c.args.count - 1)) a) ∙ ap (λ j. replicate j a) n) k),
    )
