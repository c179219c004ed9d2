-- What holds of each item of two lists, of one after the other, and of a list under a function.
use Rattle.tbr_model.proofs.Common.{◌≡◌, Bool, true, false, if◌then◌else◌, List, [], ◌∷◌, ◌++◌, map, filter, refl, ap, sym, subst, append_assoc, append-nil, AllZip, Each}

pub each_front : {X : Type 0} (P : X → Type 0) (a b : List X) → Each P (a ++ b) → Each P a
each_front P [] b h = tt
each_front P (x ∷ a) b h = (h.0, each_front P a b h.1)

pub each_back : {X : Type 0} (P : X → Type 0) (a b : List X) → Each P (a ++ b) → Each P b
each_back P [] b h = h
each_back P (x ∷ a) b h = each_back P a b h.1

pub each_append : {X : Type 0} (P : X → Type 0) (a b : List X) → Each P a → Each P b → Each P (a ++ b)
each_append P [] b h k = k
each_append P (x ∷ a) b h k = (h.0, each_append P a b h.1 k)

pub each_weaker : {X : Type 0} (P Q : X → Type 0) → ((x : X) → P x → Q x) → (xs : List X) → Each P xs → Each Q xs
each_weaker P Q f [] h = tt
each_weaker P Q f (x ∷ xs) h = (f x h.0, each_weaker P Q f xs h.1)

-- a function goes into both cases
pub if_same : {X Y : Type 0} (f : X → Y) (b : Bool) (x y : X) (z w : Y) → z ≡ f x → w ≡ f y → (if b then z else w) ≡ f (if b then x else y)
if_same f true x y z w p q = p
if_same f false x y z w p q = q

-- what one more item keeps
pub from_front : {X : Type 0} (P : List X → Type 0) → ((xs : List X) (x : X) → P xs → P (xs ++ x ∷ [])) → (front xs : List X) → P front → P (front ++ xs)
from_front P more front [] h = subst P (sym (append-nil front)) h
from_front P more front (x ∷ xs) h = subst P (append_assoc front (x ∷ []) xs) (from_front P more (front ++ x ∷ []) xs (more front x h))

-- ---- under a function

pub map_same : {X : Type 0} (g : X → X) → ((x : X) → g x ≡ x) → (xs : List X) → map g xs ≡ xs
map_same g same [] = refl
map_same g same (x ∷ xs) = rw (same x) (ap (λ ys. x ∷ ys) (map_same g same xs))

pub each_map : {X Y : Type 0} (g : X → Y) (P : X → Type 0) (Q : Y → Type 0) → ((x : X) → P x → Q (g x)) → (xs : List X) → Each P xs → Each Q (map g xs)
each_map g P Q one [] h = tt
each_map g P Q one (x ∷ xs) h = (one x h.0, each_map g P Q one xs h.1)

pub each_unmap : {X Y : Type 0} (g : X → Y) (P : X → Type 0) (Q : Y → Type 0) → ((x : X) → Q (g x) → P x) → (xs : List X) → Each Q (map g xs) → Each P xs
each_unmap g P Q one [] h = tt
each_unmap g P Q one (x ∷ xs) h = (one x h.0, each_unmap g P Q one xs h.1)

pub filter-map : {X Y : Type 0} (g : X → Y) (p : X → Bool) (q : Y → Bool) → ((x : X) → q (g x) ≡ p x) → (xs : List X) → filter q (map g xs) ≡ map g (filter p xs)
filter-map g p q same [] = refl
filter-map g p q same (x ∷ xs) = let rest = filter-map g p q same xs in rw (same x) (if_same (map g) (p x) _ _ _ _ (ap (λ ys. g x ∷ ys) rest) rest)

pub zip-map : {X Y Z W : Type 0} (R : X → Y → Type 0) (S : Z → W → Type 0) (g : X → Z) (k : Y → W) →
    ((x : X) (y : Y) → R x y → S (g x) (k y)) → (xs : List X) (ys : List Y) → AllZip R xs ys →
    AllZip S (map g xs) (map k ys)
zip-map R S g k each [] [] h = tt
zip-map R S g k each [] (y ∷ ys) h = absurd h
zip-map R S g k each (x ∷ xs) [] h = absurd h
zip-map R S g k each (x ∷ xs) (y ∷ ys) h = (each x y h.0, zip-map R S g k each xs ys h.1)
