-- Whether overhanging cells find their places.
use Rattle.tbr_rows.proofs.Common.{◌≡◌, if◌then◌else◌, ℕ, ◌+◌, ◌<◌, ◌≤◌, Bool, true, false, ◌&&◌, ◌||◌, Option, Some, None, List, [], ◌∷◌, map, refl, subst, arith, is_some, option_map}
use Rattle.tbr_rows.proofs.Common.{list_all, list_any, eqb-true, le-leb, and_parts, same_Some, Cell, end_of, AreSideBySide, AreApart, Spot, spot_of, spots_from, look, is_left_for}
use Rattle.tbr_rows.proofs.Common.{ends_before, row_fits, with_hanging}
use Rattle.std.proofs.lemmas.Bool.{ne_eqb, leb-true, leb-false}

-- whether a cell finds its place among others
abbrev pub finds : {A : Type 0} → List Spot → Cell A → Bool
finds spots h = list_any (is_left_for h) spots || list_all (ends_before h) spots

pub left_is : {A : Type 0} (h c : Cell A) → is_left_for h (spot_of c) ≡ true → (h.place ≡ c.place) × (h.width ≡ c.width)
left_is h c e = grind (arith, and_parts, eqb-true)

pub elsewhere : {A : Type 0} (h : Cell A) (s : Spot) → (h.place ≡ s.place → ⊥) → is_left_for h s ≡ false
elsewhere h s n = rw (ne_eqb h.place s.place n) refl

pub spots_side_by_side : {A : Type 0} (at : ℕ) (cs : List (Cell A)) → AreSideBySide at cs → map spot_of cs ≡ spots_from at (map look cs)
spots_side_by_side at [] s = refl
spots_side_by_side at (c ∷ cs) s = rw (← s.0, spots_side_by_side (end_of c + 1) cs s.1) refl

-- a cell before a place isn't found after it
pub none_from : {A : Type 0} (h : Cell A) (at : ℕ) (ws : List (ℕ × Bool)) → h.place < at → list_any (is_left_for h) (spots_from at ws) ≡ false
none_from h at [] before = refl
none_from h at (w ∷ ws) before =
    rw (elsewhere h (record { place = at; width = w.0; is_blank = w.1 }) (λ e. let no : ⊥ = omega (arith, before, e) in no)) (none_from h (at + w.0 + 1) ws (omega (arith, before)))

none_after : {A : Type 0} (h : Cell A) (at : ℕ) (cs : List (Cell A)) → h.place < at → AreSideBySide at cs → list_any (is_left_for h) (map spot_of cs) ≡ false
none_after h at cs before s = rw (spots_side_by_side at cs s) (none_from h at (map look cs) before)

-- cells after a place need not look at one that ends before it
pub past : {A : Type 0} (s : Spot) (spots : List Spot) (at : ℕ) (hs : List (Cell A)) → s.place + s.width + 1 ≤ at → AreApart at hs → row_fits hs (s ∷ spots) ≡ row_fits hs spots
past s spots at [] after a = refl
past s spots at (h ∷ hs) after a = grind (arith, elsewhere, le-leb, past s spots (end_of h + 1) hs (omega (arith, after, a.0)) a.1)

pub all_found : {A : Type 0} (hs : List (Cell A)) → true ≡ row_fits hs []
all_found [] = refl
all_found (h ∷ hs) = all_found hs

pub some_mapped : {X Y : Type 0} (f : X → Y) (o : Option X) → is_some (option_map f o) ≡ is_some o
some_mapped f None = refl
some_mapped f (Some x) = refl

-- what is mapped, if that gives something
pub mapped_from : {X Y : Type 0} (f : X → Y) (o : Option X) (y : Y) → option_map f o ≡ Some y → (x : X) × (o ≡ Some x) × (f x ≡ y)
mapped_from f None y h = absurd (let no : ⊥ = cc in no)
mapped_from f (Some x) y h = (x, refl, same_Some (f x) y h)

-- Overhanging cells have their places exactly where the row fits.
pub found_exactly : {A : Type 0} (at : ℕ) (hs cs : List (Cell A)) → AreSideBySide at cs → AreApart at hs → is_some (with_hanging at hs cs) ≡ row_fits hs (map spot_of cs)
found_exactly at hs [] s a = all_found hs
found_exactly at [] (c ∷ cs) s a = refl
found_exactly {A} at (h ∷ hs) (c ∷ cs) s a =
    go (is_left_for h (spot_of c)) (ends_before h (spot_of c)) refl refl (λ t. found_exactly (end_of h + 1) hs cs t a.1) (λ b. found_exactly (end_of c + 1) (h ∷ hs) cs s.1 b)
  where
    spots : List Spot
    spots = map spot_of cs

    go : (l e : Bool) → is_left_for h (spot_of c) ≡ l → ends_before h (spot_of c) ≡ e →
        (AreSideBySide (end_of h + 1) cs → is_some (with_hanging (end_of h + 1) hs cs) ≡ row_fits hs spots) →
        (AreApart (end_of c + 1) (h ∷ hs) → is_some (with_hanging (end_of c + 1) (h ∷ hs) cs) ≡ row_fits (h ∷ hs) spots) →
        is_some (if l then option_map (λ r. h ∷ r) (with_hanging (end_of h + 1) hs cs) else if e then option_map (λ r. c ∷ r) (with_hanging (end_of c + 1) (h ∷ hs) cs) else None)
        ≡ (((l || list_any (is_left_for h) spots) || (e && list_all (ends_before h) spots)) && row_fits hs (spot_of c ∷ spots))
    go true e left before taken kept =
        let is = left_is h c left in
        let same : end_of c + 1 ≡ end_of h + 1 = omega (arith, is.0, is.1) in
        rw (some_mapped, taken (subst (λ n. AreSideBySide n cs) same s.1), past (spot_of c) spots (end_of h + 1) hs (omega (arith, same)) a.1) refl
    go false true left before taken kept =
        let ends : end_of c + 1 ≤ h.place = leb-true _ _ before in
        rw (some_mapped, kept (ends, a.1), past (spot_of c) spots (end_of h + 1) hs (omega (arith, ends)) a.1) refl
    go false false left before taken kept =
        let short : h.place < end_of c + 1 = leb-false _ _ before in
        rw (none_after h (end_of c + 1) cs short s.1) refl
