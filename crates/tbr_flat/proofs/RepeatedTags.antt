-- Tags that are stored once for neighbouring characters.
use Rattle.tbr_flat.proofs.Common.{◌≡◌, ℕ, suc, ◌+◌, ◌-◌, ◌<◌, ◌≤◌, List, [], ◌∷◌, ◌++◌, length, take, drop, get_or, set, replicate, ap, sym, ◌∙◌, arith, append_assoc, append-nil, add-one, refl}
use Rattle.tbr_flat.proofs.Common.{get_or_read, take_at, drop_at, drop_all, drop-drop, take-append-drop, length-append, length-replicate, RepeatedTag, tags_of, IsPlace}
use Rattle.std.proofs.Common.{drop-cons}
use Rattle.std.proofs.lemmas.List.{set_split, drop-set, take_more_set, replicate-append-replicate}
use Rattle.std.proofs.Math.Seq.{take-append-add, drop-append-add}

module _ {A : Type 0} where
  pub tags_of-append : (xs ys : List (RepeatedTag A)) → tags_of (xs ++ ys) ≡ tags_of xs ++ tags_of ys
  tags_of-append [] ys = refl
  tags_of-append (x ∷ xs) ys = ap (λ ts. x.tag ∷ replicate x.more x.tag ++ ts) (tags_of-append xs ys) ∙ sym (append_assoc (x.tag ∷ replicate x.more x.tag) (tags_of xs) (tags_of ys))

  -- the tags before a stored one, and those from it on
  pub split_tags : (xs : List (RepeatedTag A)) (i : ℕ) → tags_of xs ≡ tags_of (take i xs) ++ tags_of (drop i xs)
  split_tags xs i = ap tags_of (sym (take-append-drop i xs)) ∙ tags_of-append (take i xs) (drop i xs)

  pub take_after : (front ts : List A) (o p : ℕ) → p ≡ length front + o → take p (front ++ ts) ≡ front ++ take o ts
  take_after front ts o p e = ap (λ i. take i (front ++ ts)) e ∙ take-append-add front ts o

  -- the tags before the last ones, and these
  pub cut : (xs : List (RepeatedTag A)) (tags : List A) (i o last : ℕ) → tags_of xs ≡ tags → length (tags_of (drop i xs)) ≡ o + last →
      (take (length tags - last) tags ≡ tags_of (take i xs) ++ take o (tags_of (drop i xs))) × (drop (length tags - last) tags ≡ drop o (tags_of (drop i xs)))
  cut xs tags i o last is len =
      let front = tags_of (take i xs) in let live = tags_of (drop i xs) in
      let parts : tags ≡ front ++ live = sym is ∙ split_tags xs i in
      let n : length tags - last ≡ length front + o = omega (arith, ap length parts, length-append front live, len) in
      ((λ k. take (n k) (parts k)) ∙ take-append-add front live o, (λ k. drop (n k) (parts k)) ∙ drop-append-add front live o)

  -- a stored tag that is left, and those after it
  pub stored_at : (xs : List (RepeatedTag A)) (i : ℕ) (s : RepeatedTag A) → i < length xs → s ≡ get_or xs i s → drop i xs ≡ s ∷ drop (suc i) xs
  stored_at xs i s h is = drop-cons xs i s h ∙ ap (λ z. z ∷ drop (suc i) xs) (sym is)

  pub none_left : (xs : List (RepeatedTag A)) (i : ℕ) → length xs ≤ i → length (tags_of (drop i xs)) ≡ 0
  none_left xs i h = ap (λ ys. length (tags_of ys)) (drop_all i xs h)

  -- where a tag is left, so is a stored one
  pub has_stored : (xs : List (RepeatedTag A)) (i : ℕ) → 0 < length (tags_of (drop i xs)) → i < length xs
  has_stored xs i h = grind (arith, none_left xs i)

  pub runs : (m n : ℕ) (t : A) (rest : List A) → replicate (m + n) t ++ rest ≡ replicate m t ++ (replicate n t ++ rest)
  runs m n t rest = rw (← replicate-append-replicate, append_assoc) refl

  -- the first of the tags that a stored one repeats, and what is after them
  pub parted : (xs ys : List (RepeatedTag A)) (s : RepeatedTag A) (o p : ℕ) → xs ≡ s ∷ ys → suc s.more ≡ o + p →
      (take o (tags_of xs) ≡ replicate o s.tag) × (drop o (tags_of xs) ≡ replicate p s.tag ++ tags_of ys)
  parted xs ys s o p at sum =
      let run = replicate o s.tag in let rest = replicate p s.tag ++ tags_of ys in
      let parts : tags_of xs ≡ run ++ rest = ap tags_of at ∙ ap (λ n. replicate n s.tag ++ tags_of ys) sum ∙ runs o p s.tag (tags_of ys) in
      rw parts (take_at run rest o (length-replicate o s.tag), drop_at run rest o (length-replicate o s.tag))

  -- the first of the tags that a stored one repeats are taken, or skipped; it is read twice
  pub skip_part : (xs : List (RepeatedTag A)) (i n : ℕ) (r s y : RepeatedTag A) → 0 < n →
      n ≤ length (tags_of (drop i xs)) → r ≡ get_or xs i r → s ≡ get_or xs i s → n ≤ r.more →
      y ≡ record s { more = s.more - n } →
      (take n (tags_of (drop i xs)) ≡ replicate n s.tag) × (tags_of (drop i (set xs i y)) ≡ drop n (tags_of (drop i xs)))
  skip_part xs i n r s y some within other is less e =
      let h : i < length xs = has_stored xs i (omega arith) in let same : r ≡ s = get_or_read xs i r h other s ∙ sym is in
      let parts = parted (drop i xs) (drop (suc i) xs) s n (suc (s.more - n)) (stored_at xs i s h is) (omega (arith, ap (λ z. z.more) same)) in
      (parts.0, rw (drop-set xs i y h, e, parts.1) (rw add-one refl))

  -- a stored tag is repeated otherwise
  pub resized : (xs : List (RepeatedTag A)) (i o p q : ℕ) (s y : RepeatedTag A) → i < length xs → s ≡ get_or xs i s → suc s.more ≡ o + p → suc y.more ≡ o + q → y.tag ≡ s.tag →
      tags_of (set xs i y) ≡ (tags_of (take i xs) ++ take o (tags_of (drop i xs))) ++ (replicate q s.tag ++ tags_of (drop (suc i) xs))
  resized xs i o p q s y h is sum more tag =
      let rest = tags_of (drop (suc i) xs) in
      let run : replicate (suc y.more) y.tag ++ rest ≡ replicate o s.tag ++ (replicate q s.tag ++ rest) = (λ k. replicate (more k) (tag k) ++ rest) ∙ runs o q s.tag rest in
      rw (set_split xs i y h, tags_of-append, run, (parted (drop i xs) (drop (suc i) xs) s o p (stored_at xs i s h is) sum).0, append_assoc) refl

  pub stored_len : (xs : List (RepeatedTag A)) (i k : ℕ) (s : RepeatedTag A) → k ≡ suc i → k ≤ length xs → s ≡ get_or xs i s → length (tags_of (drop i xs)) ≡ s.more + 1 + length (tags_of (drop k xs))
  stored_len xs i k s e h is =
      ap (λ ys. length (tags_of ys)) (stored_at xs i s (omega arith) is)
      ∙ omega
      (arith, length-append (replicate s.more s.tag) (tags_of (drop (suc i) xs)), length-replicate s.more s.tag, ap (λ j. length (tags_of (drop j xs))) e)

  pub drop_on : (i j : ℕ) (xs ys : List (RepeatedTag A)) → i ≤ j → drop i xs ≡ drop i ys → drop j xs ≡ drop j ys
  drop_on i j xs ys h e = let n : i + (j - i) ≡ j = omega arith in cc (drop-drop (j - i) i xs, drop-drop (j - i) i ys)

  pub fewer : (xs : List (RepeatedTag A)) (i j : ℕ) → i ≤ j → length (tags_of (drop j xs)) ≤ length (tags_of (drop i xs))
  fewer xs i j h =
      let n : i + (j - i) ≡ j = omega arith in
      omega (
        arith,
        ap length (split_tags (drop i xs) (j - i)),
        length-append (tags_of (take (j - i) (drop i xs)))
            (tags_of (drop (j - i) (drop i xs))),
        ap (λ ys. length (tags_of ys)) (drop-drop (j - i) i xs ∙ ap (λ m. drop m xs) n),
      )

  pub offset_in : (xs : List (RepeatedTag A)) (i o last : ℕ) (s : RepeatedTag A) → IsPlace xs i o last → s ≡ get_or xs i s → o ≤ s.more
  offset_in xs i o last s p is = grind (arith, p.tags, p.inside, none_left xs i, λ (h : suc i ≤ length xs). stored_len xs i (suc i) s refl h is)

  -- the place before more tags comes first
  pub in_order : (xs : List (RepeatedTag A)) (i j a b last count : ℕ) → 0 < count → IsPlace xs i a (last + count) → IsPlace xs j b last → i ≤ j
  in_order xs i j a b last count some p q = grind (arith, p.tags, q.tags, q.inside, fewer xs j i, fewer xs (suc j) i)

  -- a stored tag ends where a place parts it
  pub ended : (xs : List (RepeatedTag A)) (i o last : ℕ) (s y : RepeatedTag A) → IsPlace xs i o last → 0 < o → s ≡ get_or xs i s → y ≡ record s { more = o - 1 } →
      tags_of (take (i + 1) (set xs i y)) ≡ tags_of (take i xs) ++ take o (tags_of (drop i xs))
  ended xs i o last s y p some is e =
      let h : i < length xs = has_stored xs i (omega (arith, p.tags)) in let less : o ≤ s.more = offset_in xs i o last s p is in
      let n : suc (o - 1) ≡ o = omega arith in
      ap tags_of (take_more_set xs i y h ∙ ap (λ z. take i xs ++ z ∷ []) e) ∙ tags_of-append (take i xs) (record s { more = o - 1 } ∷ [])
      ∙ ap (λ ts. tags_of (take i xs) ++ ts) (append-nil (replicate (suc (o - 1)) s.tag) ∙ ap (λ j. replicate j s.tag) n
      ∙ sym (parted (drop i xs) (drop (suc i) xs) s o (suc s.more - o) (stored_at xs i s h is) (omega arith)).0)
