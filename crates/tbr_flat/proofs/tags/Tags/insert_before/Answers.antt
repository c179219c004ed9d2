use Rattle.tbr_flat.proofs.Common.{◌≡◌, ◌<◌, ◌≤◌, ◌+◌, ◌-◌, ◌++◌, [], ◌∷◌, ℕ, zero, suc, Bool, true, List, length, drop, take, get_or, set, replicate, refl, ap, ◌∙◌, sym, arith, add-one, append-nil}
use Rattle.tbr_flat.proofs.Common.{get_or_read, take_at, drop_at, length-take-le, on_ok_weaker, IsEquivalence, AllZip, RepeatedTag, tags_of, IsPlace}
use Rattle.std.proofs.lemmas.List.{drop-set-lt, length-set}
use Rattle.tbr_flat.proofs.RepeatedTags.{cut, ended, has_stored, offset_in, parted, resized, runs, stored_at, stored_len, tags_of-append}
use Rattle.tbr_flat.proofs.tags.Tags.insert_before.Goals as goal

-- a run under an equal tag, and the same tags after it
same_run : {A : Type 0} (eq : A → A → Bool) (laws : IsEquivalence eq) (n : ℕ) (b t : A) (rest : List A) → eq b t ≡ true → AllZip (λ x y. eq x y ≡ true) (replicate n b ++ rest) (replicate n t ++ rest)
same_run eq laws zero b t [] h = tt
same_run eq laws zero b t (x ∷ rest) h = (laws.refl x, same_run eq laws zero b t rest h)
same_run eq laws (suc n) b t rest h = (h, same_run eq laws n b t rest h)

module _ {A : Type 0} (eq : A → A → Bool) (laws : IsEquivalence eq) (xs : List (RepeatedTag A)) (tags : List A) (view : tags_of xs ≡ tags) (last n : ℕ) (tag : A) where
  abbrev Inserted : List A → Type 0
  Inserted new =
      (a : A) × (after : List A) × (eq a tag ≡ true) ×
      (new ≡ take (length tags - last) tags ++ (replicate n a ++ after)) × AllZip (λ x y. eq x y ≡ true) after
      (drop (length tags - last) tags)

  -- the tag is put before what is left of a run and what is after that
  put : (i o p : ℕ) (a b t : A) (new rest : List A) → length (tags_of (drop i xs)) ≡ o + last → eq a tag ≡ true → eq b t ≡ true → drop o (tags_of (drop i xs)) ≡ replicate p t ++ rest →
      new ≡ (tags_of (take i xs) ++ take o (tags_of (drop i xs))) ++ (replicate n a ++ (replicate p b ++ rest)) → Inserted new
  put i o p a b t new rest len e same left is =
      let at = cut xs tags i o last view len in
      rw (at.0, at.1, left, is) (a, replicate p b ++ rest, e, refl, same_run eq laws p b t rest same)

  -- a stored tag that was read twice is repeated more, wherever in it the tag is meant
  bumped : (i o : ℕ) (r s y : RepeatedTag A) → i < length xs → r ≡ get_or xs i r → s ≡ get_or xs i s →
      y ≡ record s { more = s.more + n } → o ≤ suc s.more → length (tags_of (drop i xs)) ≡ o + last →
      eq r.tag tag ≡ true →
      Inserted (tags_of (set xs i y))
  bumped i o r s y h other is e less len same =
      let p = suc s.more - o in let rest = tags_of (drop (suc i) xs) in
      put i o p s.tag s.tag s.tag (tags_of (set xs i y)) rest len
      (ap (λ z. eq z.tag tag) (is ∙ sym (get_or_read xs i r h other s)) ∙ same) (laws.refl s.tag)
      (parted (drop i xs) (drop (suc i) xs) s o p (stored_at xs i s h is) (omega arith)).1
      (resized xs i o p (n + p) s y h is (omega arith) (omega (arith, ap (λ z. z.more) e)) (ap (λ z. z.tag) e)
      ∙ ap (λ ts. (tags_of (take i xs) ++ take o (tags_of (drop i xs))) ++ ts) (runs n p s.tag rest))

  -- a stored tag is put before another one
  inserted : (two : List (RepeatedTag A)) (i : ℕ) → 0 < n → length (tags_of (drop i xs)) ≡ last → two ≡ take i xs ++ record { more = n - 1; tag = tag } ∷ drop i xs → Inserted (tags_of two)
  inserted two i some len is =
      let m : suc (n - 1) ≡ n = omega arith in let rest = tags_of (drop i xs) in
      put i 0 0 tag tag tag (tags_of two) rest (omega (arith, len)) (laws.refl tag) (laws.refl tag) refl
      (ap tags_of is ∙ tags_of-append (take i xs) (record { more = n - 1; tag = tag } ∷ drop i xs) ∙ (λ k. sym (append-nil (tags_of (take i xs))) k ++ (replicate (m k) tag ++ rest)))

  -- a stored tag is split, and one is put between
  split : (one two : List (RepeatedTag A)) (i o : ℕ) (s y b : RepeatedTag A) → 0 < n → IsPlace xs i o last → 0 < o →
      s ≡ get_or xs i s → y ≡ record s { more = o - 1 } → b.more ≡ s.more - o → eq b.tag s.tag ≡ true →
      one ≡ take (i + 1) (set xs i y) ++ b ∷ drop (i + 1) (set xs i y) → two ≡ take (i + 1) one ++ record { more = n - 1; tag = tag } ∷ drop (i + 1) one → Inserted (tags_of two)
  split one two i o s y b some place inside is e back same first second =
      let h : i < length xs = has_stored xs i (omega (arith, place.tags)) in let less : o ≤ s.more = offset_in xs i o last s place is in
      let front = take (i + 1) (set xs i y) in let new : RepeatedTag A = record { more = n - 1; tag = tag } in let after = b ∷ drop (i + 1) (set xs i y) in
      let long : length front ≡ i + 1 = length-take-le (i + 1) (set xs i y) (omega (arith, length-set xs i y)) in
      let items : two ≡ front ++ new ∷ after =
      second ∙ ap (λ zs. take (i + 1) zs ++ new ∷ drop (i + 1) zs) first
      ∙ (λ k. take_at front after (i + 1) long k ++ new ∷ drop_at front after (i + 1) long k) in
      let kept : drop (i + 1) (set xs i y) ≡ drop (suc i) xs = drop-set-lt (i + 1) xs i y (omega arith) ∙ ap (λ j. drop j xs) (add-one i) in
      let m : suc (n - 1) ≡ n = omega arith in
      put i o (suc b.more) tag b.tag s.tag (tags_of two) (tags_of (drop (suc i) xs)) place.tags (laws.refl tag) same
      (parted (drop i xs) (drop (suc i) xs) s o (suc b.more) (stored_at xs i s h is) (omega arith)).1
      (ap tags_of items ∙ tags_of-append front (new ∷ after) ∙ (λ k. ended xs i o last s y place inside is e k ++ (replicate (m k) tag ++ (replicate (suc b.more) b.tag ++ tags_of (kept k)))))

pub returns-then-eq : goal.returns-then-eq
returns-then-eq g c =
    let xs = c.self.inside.stored.items in let p = c.place_before-place.result in let s = c.index_mut.result.now in
    let in_xs : p.nth < length xs = omega (arith, c.if-index-len.true, c.len.ensures, c.self.inside.stored.ok.0) in
    let less : p.offset ≤ s.more = offset_in xs p.nth p.offset c.args.last s c.place_before-place.ensures c.index_mut.ensures.value in
    on_ok_weaker c.lengthen.result
    (λ h. bumped g.T.PartialEq.eq g.met.T.Eq.laws xs c.args.self.now c.self.view_is c.args.last c.args.count c.args.tag p.nth p.offset c.index.result.now s c.lengthen.new.repeated in_xs
    c.index.ensures c.index_mut.ensures.value h (omega (arith, less)) c.place_before-place.ensures.tags (sym c.if-eq.ensures)) c.lengthen.ensures.ok

pub returns-then-place-gt0 : goal.returns-then-place-gt0
returns-then-place-gt0 g c =
    let p = c.place_before-place.result in let back = c.in_ok-back in
    split g.T.PartialEq.eq g.met.T.Eq.laws c.self.inside.stored.items c.args.self.now c.self.view_is c.args.last
    c.args.count c.args.tag c.insert.new.self.items c.insert-then-place-gt0.new.self.items p.nth p.offset
    c.index_mut-then-place-gt0.result.now c.split_off.new.repeated back.back c.requires.some
    c.place_before-place.ensures c.if-place-gt0.true c.index_mut-then-place-gt0.ensures.value back.ensures.front
    back.ensures.back.0 back.ensures.back.1
    c.in_ok-insert.ensures.items c.in_ok-insert-2.ensures.items

pub returns-then-eq-2 : goal.returns-then-eq-2
returns-then-eq-2 g c =
    let xs = c.self.inside.stored.items in let i = c.place_before-place.result.nth in let at = c.place_before-place.ensures in let s = c.index_mut-then-eq-2.result.now in
    let next : i ≡ suc (i - 1) = omega (arith, c.if-index-gt0.true) in
    let len = stored_len xs (i - 1) i s next at.within c.index_mut-then-eq-2.ensures.value in
    on_ok_weaker c.lengthen-then-eq-2.result
    (λ h. bumped g.T.PartialEq.eq g.met.T.Eq.laws xs c.args.self.now c.self.view_is c.args.last c.args.count c.args.tag (i - 1) (suc s.more) c.index-then-index-gt0.result.now s
    c.lengthen-then-eq-2.new.repeated (omega (arith, next, at.within)) c.index-then-index-gt0.ensures
    c.index_mut-then-eq-2.ensures.value h (omega arith) (omega (arith, len, at.tags, c.if-place-gt0.false))
    (sym c.if-eq-2.ensures))
    c.lengthen-then-eq-2.ensures.ok

pub returns : goal.returns
returns g c =
    inserted g.T.PartialEq.eq g.met.T.Eq.laws c.self.inside.stored.items c.args.self.now c.self.view_is c.args.last
    c.args.count c.args.tag c.insert-2.new.self.items c.place_before-place.result.nth c.requires.some
    (omega (arith, c.place_before-place.ensures.tags, c.if-place-gt0.false)) c.in_ok-insert-3.ensures.items
