-- How many of a list's elements have less than so many others ahead of them.
use Rattle.column_widths.proofs.Common.{◌≡◌, ℕ, ◌+◌, ◌-◌, ◌<◌, ◌≤◌, min, Bool, true, false, not, ◌&&◌, ltb, List, [], ◌∷◌, refl, sym, ap, ◌∙◌, ⊎_elim, zero-add, arith, count_by, cases_lt, lt-ltb}
use Rattle.column_widths.proofs.Common.{le-ltb, false≢true, nat_tests}
use Rattle.column_widths.proofs.Counting.{IsIn, one_if, count_cons, count_same, count_le, count_lt}

-- an order of some elements, and which of them count
pub record Order (P : Type 0) : Type 0 where
  pub counts : P → Bool
  pub before : P → P → Bool
  pub transitive : (p q r : P) → before p q ≡ true → before q r ≡ true → before p r ≡ true
  pub irreflexive : (p : P) → before p p ≡ false

-- each element is before or after each that follows it in the list
abbrev pub IsTotal : {P : Type 0} → Order P → List P → Type 0
IsTotal o [] = Unit {0}
IsTotal {P} o (e ∷ xs) = ((x : P) → IsIn x xs → o.before e x ≡ not (o.before x e)) × IsTotal o xs

-- whether an element counts, and is ahead of another
abbrev pub ahead : {P : Type 0} → Order P → P → P → Bool
ahead o p q = o.counts q && o.before q p

abbrev pub rank_in : {P : Type 0} → Order P → List P → P → ℕ
rank_in o xs p = count_by (ahead o p) xs

-- whether an element counts, and has less than so many ahead of it
abbrev pub is_early : {P : Type 0} → Order P → List P → ℕ → P → Bool
is_early o xs m p = o.counts p && ltb (rank_in o xs p) m

and_left : (a b : Bool) → (a && b) ≡ true → a ≡ true
and_left true b h = refl
and_left false b h = h

and_right : (a b : Bool) → (a && b) ≡ true → b ≡ true
and_right true b h = h
and_right false b h = grind arith

and_both : (a b : Bool) → a ≡ true → b ≡ true → (a && b) ≡ true
and_both a b h g = rw (h, g) refl

-- one element more ahead of another moves it back by one
early_within : (c b : Bool) (k r m : ℕ) → (c ≡ true → b ≡ true → r ≤ k) → (c ≡ true → b ≡ false → k < r) → r < m →
    (c && ltb (one_if b + k) m) ≡ (c && ltb k (m - 1))
early_within false b k r m after before h = refl
early_within true true k r m after before h = grind (arith, nat_tests)
early_within true false k r m after before h =
    let l : k < r = before refl refl in
    let x : ltb (0 + k) m ≡ true = lt-ltb (0 + k) m (omega arith) in
    let y : ltb k (m - 1) ≡ true = lt-ltb k (m - 1) (omega arith) in x ∙ sym y

early_beyond : (c b : Bool) (k r m : ℕ) → (c ≡ true → b ≡ true → r ≤ k) → (c ≡ true → b ≡ false → k < r) → m ≤ r →
    (c && ltb (one_if b + k) m) ≡ (c && ltb k m)
early_beyond false b k r m after before h = refl
early_beyond true true k r m after before h =
    let l : r ≤ k = after refl refl in
    let x : ltb (1 + k) m ≡ false = le-ltb (1 + k) m (omega arith) in
    let y : ltb k m ≡ false = le-ltb k m (omega arith) in x ∙ sym y
early_beyond true false k r m after before h = ap (λ j. ltb j m) (omega arith)

-- what is after an element has at least as many ahead of it
pub after_ranks : {P : Type 0} (o : Order P) (xs : List P) (e x : P) → o.before e x ≡ true → rank_in o xs e ≤ rank_in o xs x
after_ranks o xs e x h =
    count_le (ahead o e) (ahead o x) xs
    (λ q i g. and_both (o.counts q) (o.before q x) (and_left _ _ g) (o.transitive q e x (and_right _ _ g) h))

-- what is before an element has fewer ahead of it
before_ranks : {P : Type 0} (o : Order P) (xs : List P) (e x : P) → IsIn x xs → o.counts x ≡ true → o.before x e ≡ true →
    rank_in o xs x < rank_in o xs e
before_ranks o xs e x i c h =
    count_lt (ahead o x) (ahead o e) xs x i (rw (o.irreflexive x, c) refl) (and_both _ _ c h)
    (λ q k g. and_both (o.counts q) (o.before q e) (and_left _ _ g) (o.transitive q x e (and_right _ _ g) h))

not_false : (b : Bool) → false ≡ not b → b ≡ true
not_false true h = refl
not_false false h = absurd (false≢true h)

and_false : (a : Bool) → (a && false) ≡ false
and_false true = refl
and_false false = refl

-- the first element has as many ahead of it as there are in the rest
first_is_early : {P : Type 0} (o : Order P) (e : P) (xs : List P) (m : ℕ) →
    is_early o (e ∷ xs) m e ≡ (o.counts e && ltb (rank_in o xs e) m)
first_is_early o e xs m =
    let itself : ahead o e e ≡ false = rw (o.irreflexive e) (and_false (o.counts e)) in
    let same : rank_in o (e ∷ xs) e ≡ rank_in o xs e = count_cons (ahead o e) e xs ∙ rw (itself, zero-add) refl in
    ap (λ k. o.counts e && ltb k m) same

-- each other one may have the first one more
other_is_early : {P : Type 0} (o : Order P) (e : P) (xs : List P) (m : ℕ) (c : Bool) → o.counts e ≡ c → (x : P) →
    is_early o (e ∷ xs) m x ≡ (o.counts x && ltb (one_if (c && o.before e x) + rank_in o xs x) m)
other_is_early o e xs m c h x =
    ap (λ k. o.counts x && ltb k m) (count_cons (ahead o x) e xs ∙ ap (λ b. one_if (b && o.before e x) + rank_in o xs x) h)

-- the count, as far as the first element decides it
early_with : {P : Type 0} (o : Order P) (e : P) (xs : List P) (m k : ℕ) (c b : Bool) → o.counts e ≡ c →
    (c && ltb (rank_in o xs e) m) ≡ b →
    ((x : P) → IsIn x xs → is_early o (e ∷ xs) m x ≡ is_early o xs k x) →
    count_by (is_early o xs k) xs ≡ min k (count_by o.counts xs) →
    one_if b + min k (count_by o.counts xs) ≡ min m (one_if c + count_by o.counts xs) →
    count_by (is_early o (e ∷ xs) m) (e ∷ xs) ≡ min m (count_by o.counts (e ∷ xs))
early_with o e xs m k c b counts first others rest total =
    let here : is_early o (e ∷ xs) m e ≡ b = first_is_early o e xs m ∙ ap (λ a. a && ltb (rank_in o xs e) m) counts ∙ first in
    let left : count_by (is_early o (e ∷ xs) m) (e ∷ xs) ≡ one_if b + min k (count_by o.counts xs) =
    count_cons (is_early o (e ∷ xs) m) e xs ∙ rw (here, count_same _ _ xs others, rest) refl in
    let right : count_by o.counts (e ∷ xs) ≡ one_if c + count_by o.counts xs = count_cons o.counts e xs ∙ ap (λ a. one_if a + count_by o.counts xs) counts in
    left ∙ total ∙ ap (min m) (sym right)

-- so many of the elements that count have less than so many ahead of them, as far as there are
pub early_count : {P : Type 0} (o : Order P) (xs : List P) (m : ℕ) → IsTotal o xs →
    count_by (is_early o xs m) xs ≡ min m (count_by o.counts xs)
early_count o [] m t = omega arith
early_count {P} o (e ∷ xs) m t =
    let r = rank_in o xs e in
    let n = count_by o.counts xs in
    let after = λ (x : P) (c : o.counts x ≡ true) (b : o.before e x ≡ true). after_ranks o xs e x b in
    let before = λ (x : P) (i : IsIn x xs) (c : o.counts x ≡ true) (b : o.before e x ≡ false). before_ranks o xs e x i c (not_false _ (sym b ∙ t.0 x i)) in
    let go : (c : Bool) → o.counts e ≡ c → count_by (is_early o (e ∷ xs) m) (e ∷ xs) ≡ min m (count_by o.counts (e ∷ xs)) = λ c.
    elim c as (λ v. o.counts e ≡ v → count_by (is_early o (e ∷ xs) m) (e ∷ xs) ≡ min m (count_by o.counts (e ∷ xs))) [
      | false ↦ λ h. early_with o e xs m m false false h refl
          (λ x i. other_is_early o e xs m false h x ∙ ap (λ k. o.counts x && ltb k m) (zero-add (rank_in o xs x)))
          (early_count o xs m t.1) (omega arith)
      | true ↦ λ h. ⊎_elim
          (λ less. early_with o e xs m (m - 1) true true h (lt-ltb r m less)
          (λ x i. other_is_early o e xs m true h x ∙ early_within (o.counts x) (o.before e x) (rank_in o xs x) r m (after x) (before x i) less)
          (early_count o xs (m - 1) t.1) (omega arith))
          (λ more. let within = count_le (ahead o e) o.counts xs (λ q i g. and_left _ _ g) in
          early_with o e xs m m true false h (le-ltb r m more)
          (λ x i. other_is_early o e xs m true h x ∙ early_beyond (o.counts x) (o.before e x) (rank_in o xs x) r m (after x) (before x i) more)
          (early_count o xs m t.1) (omega arith))
          (cases_lt r m)
    ] in
    go (o.counts e) refl
