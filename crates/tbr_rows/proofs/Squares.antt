-- Two ways round: a function before or after a walk over a list.
use Rattle.tbr_rows.proofs.Common.{◌≡◌, Bool, true, false, if◌then◌else◌, List, [], ◌∷◌, map, fold, refl, ap, ◌∙◌, flat_map, AllZip, map-append}

pub map_both : {X Y Z W : Type 0} (f : X → Y) (g : X → Z) (h : Y → W) (k : Z → W) → ((x : X) → h (f x) ≡ k (g x)) → (xs : List X) →
    map h (map f xs) ≡ map k (map g xs)
map_both f g h k one [] = refl
map_both f g h k one (x ∷ xs) = rw (one x, map_both f g h k one xs) refl

pub flat_both : {X Y Z W : Type 0} (f : X → Y) (g : X → List Z) (h : Y → List W) (k : Z → W) → ((x : X) → h (f x) ≡ map k (g x)) → (xs : List X) →
    flat_map h (map f xs) ≡ map k (flat_map g xs)
flat_both f g h k one [] = refl
flat_both f g h k one (x ∷ xs) = rw (one x, flat_both f g h k one xs, map-append) refl

pub fold_both : {X Y B C : Type 0} (f : X → Y) (g : B → C) (s : B → X → B) (t : C → Y → C) → ((b : B) (x : X) → t (g b) (f x) ≡ g (s b x)) →
    (b : B) (xs : List X) → fold t (g b) (map f xs) ≡ g (fold s b xs)
fold_both f g s t one b [] = refl
fold_both f g s t one b (x ∷ xs) = ap (λ c. fold t c (map f xs)) (one b x) ∙ fold_both f g s t one (s b x) xs

pub if_both : {X Y : Type 0} (f : X → Y) (b : Bool) (x y : X) → (if b then f x else f y) ≡ f (if b then x else y)
if_both f true x y = refl
if_both f false x y = refl

pub zip_same : {X Y Z : Type 0} (R : X → Y → Type 0) (f : X → Z) (g : Y → Z) → ((x : X) (y : Y) → R x y → f x ≡ g y) → (xs : List X) (ys : List Y) →
    AllZip R xs ys → map f xs ≡ map g ys
zip_same R f g one [] [] h = refl
zip_same R f g one (x ∷ xs) (y ∷ ys) h = rw (one x y h.0, zip_same R f g one xs ys h.1) refl
zip_same R f g one _ _ h = absurd h
