-- Markers among characters, as they are kept.
use Rattle.tbr_flat.proofs.Common.{◌≡◌, ℕ, suc, zero, ◌+◌, ◌<◌, ◌≤◌, inl, inr, IsTrue, ◌↔◌, List, [], ◌∷◌, ◌++◌, map, length, drop, get_or, refl, ap, sym, arith, string_bytes, eqb-true, eq-eqb}
use Rattle.tbr_flat.proofs.Common.{cases_lt, nil_from_length, Marker, MarkerPlaces, before_last, covered, before_first, shortened, followed}
use Rattle.std.proofs.Common.{nat_eq}

-- a marker as it is seen
abbrev pub mark_of : Marker → ℕ × List ℕ
mark_of m = (m.before, string_bytes m.name)

-- ---- the first marker

-- the first of a list
pub map_first : {X Y : Type 0} (f : X → Y) (xs : List X) (x : X) → 0 < length xs → x ≡ get_or xs 0 x → map f xs ≡ f x ∷ map f (drop 1 xs)
map_first f [] x h e = absurd (omega arith)
map_first f (y ∷ ys) x h e = ap (λ z. f z ∷ map f ys) (sym e)

-- it comes first where no character is before it
pub begins_with_marker : (ms rest : List (ℕ × List ℕ)) (n : ℕ) (name : List ℕ) → ms ≡ (n, name) ∷ rest →
    IsTrue (nat_eq n 0) ↔ ((first : List ℕ) × (after : List (ℕ × List ℕ)) × (ms ≡ (0, first) ∷ after))
begins_with_marker ms rest n name e = grind (arith, eqb-true, eq-eqb)

-- ---- how many characters the markers are among

pub before_last-append : (ms ns : List (ℕ × List ℕ)) → before_last (ms ++ ns) ≡ before_last ms + before_last ns
before_last-append [] ns = omega arith
before_last-append ((n, name) ∷ ms) ns = omega (arith, before_last-append ms ns)

pub covered_followed : (m n : MarkerPlaces) → covered (followed m n) ≡ covered m + covered n
covered_followed m n = go n.markers n.after
  where
    go : (ns : List (ℕ × List ℕ)) (k : ℕ) → covered (followed m (record { markers = ns; after = k })) ≡ covered m + covered (record { markers = ns; after = k })
    go [] k = omega arith
    go ((i, name) ∷ ns) k = omega (arith, before_last-append m.markers ((m.after + i, name) ∷ ns))

-- a marker more at the end
pub covered_push : (m : MarkerPlaces) (name : List ℕ) → covered (record { markers = m.markers ++ (m.after, name) ∷ []; after = 0 }) ≡ covered m
covered_push m name = omega (arith, before_last-append m.markers ((m.after, name) ∷ []))

pub first_within : (m : MarkerPlaces) → before_first m ≤ covered m
first_within m = go m.markers m.after
  where
    go : (ms : List (ℕ × List ℕ)) (k : ℕ) → before_first (record { markers = ms; after = k }) ≤ covered (record { markers = ms; after = k })
    go [] k = omega arith
    go ((n, name) ∷ ms) k = omega arith

pub covered_shortened : (m : MarkerPlaces) (k : ℕ) → k ≤ before_first m → covered (shortened k m) + k ≡ covered m
covered_shortened m k = go m.markers m.after
  where
    go : (ms : List (ℕ × List ℕ)) (b : ℕ) → k ≤ before_first (record { markers = ms; after = b }) →
        covered (shortened k (record { markers = ms; after = b })) + k ≡ covered (record { markers = ms; after = b })
    go [] b h = omega arith
    go ((n, name) ∷ ms) b h = omega arith

-- where no marker comes first a character does, if there is something
pub some_before : (m : MarkerPlaces) → 0 < covered m + length m.markers → ((name : List ℕ) (rest : List (ℕ × List ℕ)) → m.markers ≡ (0, name) ∷ rest → ⊥) → 0 < before_first m
some_before m = go m.markers m.after
  where
    go : (ms : List (ℕ × List ℕ)) (b : ℕ) → 0 < covered (record { markers = ms; after = b }) + length ms →
        ((name : List ℕ) (rest : List (ℕ × List ℕ)) → ms ≡ (0, name) ∷ rest → ⊥) →
        0 < before_first (record { markers = ms; after = b })
    go [] b h other = omega arith
    go ((zero, name) ∷ ms) b h other = absurd (other name ms refl)
    go ((suc n, name) ∷ ms) b h other = omega arith

-- among no characters there is no marker where none comes first
pub no_marks : (m : MarkerPlaces) → covered m ≡ 0 → ((name : List ℕ) (rest : List (ℕ × List ℕ)) → m.markers ≡ (0, name) ∷ rest → ⊥) → m.markers ≡ []
no_marks m h other = elim (cases_lt 0 (length m.markers)) [
  | inl some ↦ absurd (omega (arith, some_before m (omega arith) other, first_within m))
  | inr none ↦ nil_from_length m.markers (omega arith)
]
