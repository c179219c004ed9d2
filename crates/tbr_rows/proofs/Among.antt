-- What is among the items of a list, and what holds of each of them.
use Rattle.tbr_rows.proofs.Common.{◌≡◌, ℕ, inl, inr, List, [], ◌∷◌, ◌++◌, map, take, drop, ap, sym, ◌∙◌, subst, Each, map-append, each_front, each_back, StandsAmong}
use Rattle.std.proofs.Common.{◌⊎◌}
use Rattle.std.proofs.lemmas.List.{take-append-drop}

pub among_front : {X : Type 0} (x y : X) (ys : List X) → StandsAmong x ys → StandsAmong x (y ∷ ys)
among_front x y ys h = (y ∷ h.0, h.1, ap (λ zs. y ∷ zs) h.2)

pub among_map : {X Y : Type 0} (f : X → Y) (x : X) (xs : List X) → StandsAmong x xs → StandsAmong (f x) (map f xs)
among_map f x xs h = (map f h.0, map f h.1, ap (map f) h.2 ∙ map-append f h.0 (x ∷ h.1))

pub each_among : {X : Type 0} (P : X → Type 0) (x : X) (xs : List X) → StandsAmong x xs → Each P xs → P x
each_among P x xs h all = (each_back P h.0 (x ∷ h.1) (subst (Each P) h.2 all)).0

pub none_among : {X : Type 0} (x : X) → StandsAmong x [] → ⊥
none_among x h = go h.0 h.2
  where
    go : (front : List _) → [] ≡ front ++ x ∷ h.1 → ⊥
    go [] e = cc
    go (f ∷ front) e = cc

-- it is first, or is among the others
pub among_cons : {X : Type 0} (x y : X) (ys : List X) → StandsAmong x (y ∷ ys) → (x ≡ y) ⊎ StandsAmong x ys
among_cons x y ys h = go h.0 h.2
  where
    go : (front : List _) → y ∷ ys ≡ front ++ x ∷ h.1 → (x ≡ y) ⊎ StandsAmong x ys
    go [] e = inl cc
    go (f ∷ front) e = inr (front, h.1, cc)

-- where the others are among those, it is, too
pub among_again : {X : Type 0} (x y : X) (ys zs : List X) → (StandsAmong x ys → StandsAmong x zs) → StandsAmong x (y ∷ ys) → StandsAmong x (y ∷ zs)
among_again x y ys zs others h = elim (among_cons x y ys h) [ inl e ↦ ([], zs, ap (λ z. z ∷ zs) (sym e)) | inr l ↦ among_front x y zs (others l) ]

pub each_take : {X : Type 0} (P : X → Type 0) (n : ℕ) (xs : List X) → Each P xs → Each P (take n xs)
each_take P n xs h = each_front P (take n xs) (drop n xs) (subst (Each P) (sym (take-append-drop n xs)) h)

pub each_drop : {X : Type 0} (P : X → Type 0) (n : ℕ) (xs : List X) → Each P xs → Each P (drop n xs)
each_drop P n xs h = each_back P (take n xs) (drop n xs) (subst (Each P) (sym (take-append-drop n xs)) h)

pub each_gives : {X : Type 0} (P Q : X → Type 0) → ((x : X) → P x → Q x) → (xs : List X) → Each P xs → Each Q xs
each_gives P Q f [] h = tt
each_gives P Q f (x ∷ xs) h = (f x h.0, each_gives P Q f xs h.1)
