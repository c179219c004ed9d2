-- What is left over after the shares, and who gets it.
use Rattle.column_widths.proofs.Common.{◌≡◌, ℕ, ◌+◌, ◌-◌, ◌*◌, ◌<◌, ◌≤◌, min, Bool, true, cond, ltb, List, [], ◌∷◌, inl, inr, refl, sym, ap, ◌∙◌, ⊎_elim, arith, sum, sum_by, count_by, enumerate_from}
use Rattle.column_widths.proofs.Common.{sum_by-cons, sum-map, cases_lt, lt-ltb, lt-mul-div-succ, Need, Least, width_of, slack, share, gets_one, width_at, shared}
use Rattle.std.proofs.Math.Nat.{le_of_mul-le-mul_left, mul-div-le}
use Rattle.column_widths.specs.Widths.{comes_before}
use Rattle.column_widths.proofs.Counting.{IsIn, one_if, count_cons}
use Rattle.column_widths.proofs.Order.{lexicographic_trans, lexicographic_total, lexicographic_irrefl}
use Rattle.column_widths.proofs.Ranks.{Order, IsTotal, early_count}

-- whether a column can be wider
abbrev pub is_open : Need → Bool
is_open n = ltb 0 (slack n)

-- columns that can be wider, the wider need first
abbrev pub by_need : Order (ℕ × Need)
by_need = record {
  counts = λ p. is_open p.1;
  before = comes_before;
  transitive = λ p q r. lexicographic_trans p.1.greatest p.1.least p.0 q.1.greatest q.1.least q.0 r.1.greatest r.1.least r.0;
  irreflexive = λ p. lexicographic_irrefl p.1.greatest p.1.least p.0;
}

later_places : (i : ℕ) (ns : List Need) (p : ℕ × Need) → IsIn p (enumerate_from i ns) → i ≤ p.0
later_places i [] p h = absurd h
later_places i (n ∷ ns) p (inl e) = let here : p.0 ≡ i = ap (λ (q : ℕ × Need). q.0) e in omega arith
later_places i (n ∷ ns) p (inr h) = let there = later_places (i + 1) ns p h in omega arith

total_by_need : (i : ℕ) (ns : List Need) → IsTotal by_need (enumerate_from i ns)
total_by_need i [] = tt
total_by_need i (n ∷ ns) =
    (λ p h. let there = later_places (i + 1) ns p h in lexicographic_total n.greatest n.least i p.1.greatest p.1.least p.0 (omega arith), total_by_need (i + 1) ns)

-- as many get one as are left over, as far as there are columns that can be wider
pub gets_count : (left : ℕ) (ns : List Need) →
    count_by (gets_one left (enumerate_from 0 ns)) (enumerate_from 0 ns) ≡ min left (count_by (λ p. is_open p.1) (enumerate_from 0 ns))
gets_count left ns = early_count by_need (enumerate_from 0 ns) left (total_by_need 0 ns)

open_count : (i : ℕ) (ns : List Need) → count_by (λ p. is_open p.1) (enumerate_from i ns) ≡ count_by is_open ns
open_count i [] = refl
open_count i (n ∷ ns) =
    count_cons (λ p. is_open p.1) (i, n) (enumerate_from (i + 1) ns)
    ∙ ap (λ k. one_if (is_open n) + k) (open_count (i + 1) ns) ∙ sym (count_cons is_open n ns)

-- the shares fall short by less than the columns that can be wider
share_short : (extra all : ℕ) (n : Need) → 0 < all → extra * slack n ≤ all * share extra all n + all * one_if (is_open n)
share_short extra all n some =
    ⊎_elim
    (λ (wider : 0 < slack n). let test : is_open n ≡ true = lt-ltb 0 (slack n) wider in
    let below = lt-mul-div-succ (extra * slack n) {b = all} some in rw test (omega arith))
    (λ (full : slack n ≤ 0). let none : slack n ≡ 0 = omega arith in rw none (omega arith))
    (cases_lt 0 (slack n))

shares_short : (extra all : ℕ) (ns : List Need) → 0 < all →
    extra * sum_by slack ns ≤ all * sum_by (share extra all) ns + all * count_by is_open ns
shares_short extra all [] some = omega arith
shares_short extra all (n ∷ ns) some =
    let here = share_short extra all n some in
    let rest = shares_short extra all ns some in
    rw (sum_by-cons slack n ns, sum_by-cons (share extra all) n ns, count_cons is_open n ns) (omega arith)

shares_within : (extra all : ℕ) (ns : List Need) → all * sum_by (share extra all) ns ≤ extra * sum_by slack ns
shares_within extra all [] = omega arith
shares_within extra all (n ∷ ns) =
    let here = mul-div-le (extra * slack n) all in
    let rest = shares_within extra all ns in
    rw (sum_by-cons slack n ns, sum_by-cons (share extra all) n ns) (omega arith)

cancelled : (a b c : ℕ) → 0 < c → c * a ≤ c * b → a ≤ b
cancelled a b c some h = le_of_mul-le-mul_left {k = c} h some

-- the sum of the widths
widths_sum : (extra all i : ℕ) (g : ℕ × Need → Bool) (ns : List Need) →
    sum_by (λ p. p.1.least + share extra all p.1 + cond (g p) 1 0) (enumerate_from i ns)
    ≡ sum_by (width_of Least) ns + sum_by (share extra all) ns + count_by g (enumerate_from i ns)
widths_sum extra all i g [] = refl
widths_sum extra all i g (n ∷ ns) =
    let rest = widths_sum extra all (i + 1) g ns in
    rw (
      sum_by-cons (λ p. p.1.least + share extra all p.1 + cond (g p) 1 0) (i, n) (enumerate_from (i + 1) ns),
      sum_by-cons (width_of Least) n ns,
      sum_by-cons (share extra all) n ns,
      count_cons g (i, n) (enumerate_from (i + 1) ns),
    )
    (omega arith)

-- what is left beside the least widths is given out to the last column of text
pub shared_sum : (extra : ℕ) (ns : List Need) → extra < sum_by slack ns →
    sum (shared extra ns) ≡ sum_by (width_of Least) ns + extra
shared_sum extra ns less =
    let all = sum_by slack ns in
    let given = sum_by (share extra all) ns in
    let left = extra - given in
    let columns = enumerate_from 0 ns in
    let some : 0 < all = omega arith in
    let short = shares_short extra all ns some in
    let within = shares_within extra all ns in
    let enough : extra ≤ given + count_by is_open ns = cancelled extra (given + count_by is_open ns) all some (omega arith) in
    let not_more : given ≤ extra = cancelled given extra all some (omega arith) in
    let gets = gets_count left ns ∙ ap (min left) (open_count 0 ns) in
    sum-map (width_at extra all left columns) columns
    ∙ widths_sum extra all 0 (gets_one left columns) ns ∙ omega (arith, gets)
