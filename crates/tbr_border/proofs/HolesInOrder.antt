-- Holes in order.
use Rattle.tbr_border.proofs.Common.{◌≡◌, ℕ, ◌+◌, ◌-◌, ◌<◌, ◌≤◌, Bool, List, [], ◌∷◌, ◌++◌, map, length, get_or, refl, sym, arith, map_push, AllZip, Hole, span_end, AreInOrder, SameHole, MapsHole}
use Rattle.std.proofs.Common.{◌↔◌}

-- where holes from a place on end
abbrev pub last_end : {A : Type 0} → ℕ → List (Hole A) → ℕ
last_end from [] = from
last_end from (h ∷ hs) = last_end (h.place + h.width) hs

pub span_end-is : {A : Type 0} (hs : List (Hole A)) → span_end hs ≡ last_end 0 hs
span_end-is (h ∷ k ∷ hs) = span_end-is (k ∷ hs)
span_end-is _ = refl

pub in_order_push : {A : Type 0} (from : ℕ) (hs : List (Hole A)) (h : Hole A) (end longer : ℕ) →
    AreInOrder from hs end → last_end from hs ≤ h.place → h.place + h.width ≤ longer →
    AreInOrder from (hs ++ h ∷ []) longer
in_order_push from [] h end longer k p q = (p, q)
in_order_push from (g ∷ hs) h end longer k p q = (k.0, in_order_push (g.place + g.width) hs h end longer k.1 p q)

-- one more of what holes mean
pub mapped_push : {A X : Type 0} (f : X → Hole A) (xs more : List X) (x : X) (h : Hole A) (end longer : ℕ) →
    more ≡ xs ++ x ∷ [] → f x ≡ h → AreInOrder 0 (map f xs) end → last_end 0 (map f xs) ≤ h.place →
    h.place + h.width ≤ longer → AreInOrder 0 (map f more) longer
mapped_push f xs more x h end longer e same k p q = rw (e, map_push, same) (in_order_push 0 (map f xs) h end longer k p q)

pub in_order_longer : {A : Type 0} (from : ℕ) (hs : List (Hole A)) (end longer : ℕ) → AreInOrder from hs end → end ≤ longer → AreInOrder from hs longer
in_order_longer from [] end longer h k = omega arith
in_order_longer from (g ∷ hs) end longer h k = (h.0, in_order_longer (g.place + g.width) hs end longer h.1 k)

pub in_order_end : {A : Type 0} (from : ℕ) (hs : List (Hole A)) (end : ℕ) → AreInOrder from hs end → last_end from hs ≤ end
in_order_end from [] end h = h
in_order_end from (g ∷ hs) end h = in_order_end (g.place + g.width) hs end h.1

-- the last hole's end
pub span_end-last : {X : Type 0} {A : Type 0} (f : X → Hole A) (xs : List X) (d : X) → 0 < length xs →
    (f (get_or xs (length xs - 1) d)).place + (f (get_or xs (length xs - 1) d)).width ≡ span_end (map f xs)
span_end-last f [] d h = absurd (omega arith)
span_end-last f (x ∷ []) d h = refl
span_end-last f (x ∷ y ∷ xs) d h = grind (arith, span_end-last f (y ∷ xs) d (omega arith))

-- holes of the same places are in the same order
same_places : {A B : Type 0} (R : Hole A → Hole B → Type 0) → ((h : Hole A) (k : Hole B) → R h k → (h.place ≡ k.place) × (h.width ≡ k.width)) →
    (hs : List (Hole A)) (ks : List (Hole B)) → AllZip R hs ks → (from end : ℕ) → AreInOrder from hs end ↔ AreInOrder from ks end
same_places R one [] [] p from end = (λ h. h, λ h. h)
same_places R one (h ∷ hs) (k ∷ ks) p from end =
    let at = one h k p.0 in let later = same_places R one hs ks p.1 (k.place + k.width) end in rw (at.0, at.1) (λ o. (o.0, later.0 o.1), λ o. (o.0, later.1 o.1))
same_places R one _ _ p from end = absurd p

pub same_order : {A : Type 0} (eq : A → A → Bool) (from : ℕ) (hs ks : List (Hole A)) (end : ℕ) → AllZip (SameHole eq) hs ks → AreInOrder from ks end → AreInOrder from hs end
same_order eq from hs ks end p = (same_places (SameHole eq) (λ h k same. (same.0, same.1)) hs ks p from end).1

pub mapped_order : {A B : Type 0} (gives : A → B → Type 0) (from : ℕ) (hs : List (Hole A)) (ks : List (Hole B))
    (end : ℕ) → AllZip (MapsHole gives) hs ks → AreInOrder from hs end → AreInOrder from ks end
mapped_order gives from hs ks end p = (same_places (MapsHole gives) (λ h k maps. (sym maps.0, sym maps.1)) hs ks p from end).0
