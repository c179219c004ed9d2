-- Lists that stand within others, in order.
use Rattle.text_block_renderer.proofs.Common.{ℕ, Option, inl, inr, List, [], ◌∷◌, ◌++◌, refl, ◌∙◌, subst, append-nil, arith, filter-append, Item, StandWithin, to_show}

module _ {X : Type 0} where
  within_after : (front xs ys : List X) → StandWithin xs ys → StandWithin xs (front ++ ys)
  within_after [] xs ys h = h
  within_after (f ∷ front) [] ys h = tt
  within_after (f ∷ front) (x ∷ xs) ys h = inr (within_after front (x ∷ xs) ys h)

  pub within_both : (xs ys us vs : List X) → StandWithin xs us → StandWithin ys vs → StandWithin (xs ++ ys) (us ++ vs)
  within_both [] ys us vs h k = within_after us ys vs k
  within_both (x ∷ xs) ys [] vs h k = elim h [ ]
  within_both (x ∷ xs) ys (u ∷ us) vs (inl h) k = inl (h.0, within_both xs ys us vs h.1 k)
  within_both (x ∷ xs) ys (u ∷ us) vs (inr h) k = inr (within_both (x ∷ xs) ys us vs h k)

  pub within_itself : (xs : List X) → StandWithin xs xs
  within_itself [] = tt
  within_itself (x ∷ xs) = inl (refl, within_itself xs)

  pub within_more : (xs ys more : List X) → StandWithin xs ys → StandWithin xs (ys ++ more)
  within_more xs ys more h = subst (λ zs. StandWithin zs (ys ++ more)) (append-nil xs) (within_both xs [] ys more h tt)

  pub within_on : (xs ys zs : List X) → StandWithin xs ys → StandWithin ys zs → StandWithin xs zs
  within_on [] ys zs h k = tt
  within_on (x ∷ xs) [] zs h k = elim h [ ]
  within_on (x ∷ xs) (y ∷ ys) [] h k = elim k [ ]
  within_on (x ∷ xs) (y ∷ ys) (z ∷ zs) h (inr k) = inr (within_on (x ∷ xs) (y ∷ ys) zs h k)
  within_on (x ∷ xs) (y ∷ ys) (z ∷ zs) (inl h) (inl k) = inl (h.0 ∙ k.0, within_on xs ys zs h.1 k.1)
  within_on (x ∷ xs) (y ∷ ys) (z ∷ zs) (inr h) (inl k) = inr (within_on (x ∷ xs) ys zs h k.1)

-- ---- visible characters and markers

module _ {T : Type 0} (columns : ℕ → Option ℕ) where
  abbrev seen : List (Item T) → List (Item T)
  seen is = to_show columns is

  pub two_within : (is js us vs : List (Item T)) → StandWithin (seen is) (seen us) → StandWithin (seen js) (seen vs) → StandWithin (seen (is ++ js)) (seen (us ++ vs))
  two_within is js us vs h k = grind (arith, filter-append, within_both)

  pub itself_within : (is : List (Item T)) → StandWithin (seen is) (seen is)
  itself_within is = within_itself (seen is)

  -- items with others in front and after
  pub middle_within : (front is back : List (Item T)) → StandWithin (seen is) (seen (front ++ (is ++ back)))
  middle_within front is back =
      subst (λ js. StandWithin (seen js) (seen (front ++ (is ++ back)))) (append-nil is)
      (two_within [] (is ++ []) front (is ++ back) tt (two_within is [] is back (itself_within is) tt))

  -- in front come others
  pub after_within : (front is js : List (Item T)) → StandWithin (seen is) (seen js) → StandWithin (seen is) (seen (front ++ js))
  after_within front is js h = two_within [] is front js tt h

  -- and after it
  pub before_within : (is js back : List (Item T)) → StandWithin (seen is) (seen js) → StandWithin (seen is) (seen (js ++ back))
  before_within is js back h = subst (λ ks. StandWithin (seen ks) (seen (js ++ back))) (append-nil is) (two_within is [] js back h tt)
