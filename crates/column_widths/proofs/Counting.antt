-- How many elements of a list are before a place of an order.
use Rattle.column_widths.proofs.Common.{◌≡◌, ℕ, ◌+◌, ◌<◌, ◌≤◌, Bool, true, false, cond, inl, inr, List, [], ◌∷◌, refl, sym, ap, ◌∙◌, arith, count_by, sum_by-cons}
use Rattle.std.proofs.Common.{◌⊎◌}

-- an element of a list
abbrev pub IsIn : {P : Type 0} → P → List P → Type 0
IsIn x [] = ⊥
IsIn x (y ∷ ys) = (x ≡ y) ⊎ IsIn x ys

-- a test as a number
abbrev pub one_if : Bool → ℕ
one_if b = cond b 1 0

pub count_cons : {P : Type 0} (p : P → Bool) (x : P) (xs : List P) → count_by p (x ∷ xs) ≡ one_if (p x) + count_by p xs
count_cons p x xs = sum_by-cons (λ y. cond (p y) 1 0) x xs

-- tests that agree on each element count the same
pub count_same : {P : Type 0} (p q : P → Bool) (xs : List P) → ((x : P) → IsIn x xs → p x ≡ q x) → count_by p xs ≡ count_by q xs
count_same p q [] h = refl
count_same p q (x ∷ xs) h =
    let rest = count_same p q xs (λ y i. h y (inr i)) in
    rw (count_cons p x xs, count_cons q x xs, h x (inl refl), rest) refl

pub one_if_le : (a b : Bool) → (a ≡ true → b ≡ true) → one_if a ≤ one_if b
one_if_le false b h = omega arith
one_if_le true b h = rw (h refl) (omega arith)

-- a test that holds wherever another holds counts at least as many
pub count_le : {P : Type 0} (p q : P → Bool) (xs : List P) → ((x : P) → IsIn x xs → p x ≡ true → q x ≡ true) → count_by p xs ≤ count_by q xs
count_le p q [] h = omega arith
count_le p q (x ∷ xs) h =
    let rest = count_le p q xs (λ y i. h y (inr i)) in
    let here = one_if_le (p x) (q x) (h x (inl refl)) in
    rw (count_cons p x xs, count_cons q x xs) (omega (arith, rest, here))

-- and more, where it holds of an element of which the other does not
pub count_lt : {P : Type 0} (p q : P → Bool) (xs : List P) (x : P) → IsIn x xs → p x ≡ false → q x ≡ true →
    ((y : P) → IsIn y xs → p y ≡ true → q y ≡ true) → count_by p xs < count_by q xs
count_lt p q [] x i fails holds h = absurd i
count_lt p q (y ∷ ys) x (inl e) fails holds h =
    let rest = count_le p q ys (λ z k. h z (inr k)) in
    let p_y : p y ≡ false = sym (ap p e) ∙ fails in
    let q_y : q y ≡ true = sym (ap q e) ∙ holds in
    rw (count_cons p y ys, count_cons q y ys, p_y, q_y) (omega (arith, rest))
count_lt p q (y ∷ ys) x (inr i) fails holds h =
    let rest = count_lt p q ys x i fails holds (λ z k. h z (inr k)) in
    let here = one_if_le (p y) (q y) (h y (inl refl)) in
    rw (count_cons p y ys, count_cons q y ys) (omega (arith, rest, here))
