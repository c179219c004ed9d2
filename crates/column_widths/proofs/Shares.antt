-- What is shared over columns.
use Rattle.column_widths.proofs.Common.{◌≡◌, ℕ, ◌+◌, ◌-◌, ◌*◌, ◌^◌, ◌<◌, ◌≤◌, min, ⊎_elim, List, [], ◌∷◌, ◌++◌, map, length, take, get_or, arith, refl, zero-add, sum_by, enumerate_from}
use Rattle.column_widths.proofs.Common.{length-enumerate_from, get_or-enumerate_from, sum_by-cons, div_below, cases_lt, Need, Least, Greatest, width_of, slack, share, shared, width_at}
use Rattle.std.proofs.lemmas.List.{take_more, map-append}

-- a column that can be wider has a share below its slack
pub share_below_slack : (extra all : ℕ) (n : Need) → extra < all → 0 < slack n → share extra all n < slack n
share_below_slack extra all n less some = div_below (extra * slack n) all (slack n) (omega arith) (grind arith)

-- a share is at most the slack
pub share_within_slack : (extra all : ℕ) (n : Need) → extra < all → share extra all n ≤ slack n
share_within_slack extra all n less = grind arith

-- what columns need at most is within what they need at least and all their slack
pub greatest_within : (ns : List Need) → sum_by (width_of Greatest) ns ≤ sum_by (width_of Least) ns + sum_by slack ns
greatest_within [] = omega arith
greatest_within (n ∷ ns) =
    rw (sum_by-cons (width_of Greatest) n ns, sum_by-cons (width_of Least) n ns, sum_by-cons slack n ns) (omega (arith, greatest_within ns))

-- the widths as a walk makes them, from the sums that it made before
pub shared_is : (extra all left : ℕ) (ns : List Need) → all ≡ sum_by slack ns →
    left ≡ extra - sum_by (share extra all) ns →
    map (width_at extra all left (enumerate_from 0 ns)) (enumerate_from 0 ns) ≡ shared extra ns
shared_is extra all left ns e f = rw (f, e) refl

-- the step of that walk
pub width_step : (f : ℕ × Need → ℕ) (xs : List Need) (i : ℕ) (d : Need) → i < length xs →
    map f (take (i + 1) (enumerate_from 0 xs)) ≡ map f (take i (enumerate_from 0 xs)) ++ f (i, get_or xs i d) ∷ []
width_step f xs i d h =
    let within : i < length (enumerate_from 0 xs) = rw length-enumerate_from h in
    rw (take_more (enumerate_from 0 xs) i (0, d) within, map-append, get_or-enumerate_from 0 xs i (0, d) h, zero-add) refl

-- a width fits its type
pub width_fits : (extra all more : ℕ) (n : Need) → extra < all → n.least < 2 ^ 64 → n.greatest < 2 ^ 64 →
    more ≤ min 1 (slack n) → n.least + share extra all n + more < 2 ^ 64
width_fits extra all more n less least greatest within =
    ⊎_elim
    (λ some. let below = share_below_slack extra all n less some in omega arith)
    (λ none. let at_most = share_within_slack extra all n less in omega arith)
    (cases_lt 0 (slack n))
