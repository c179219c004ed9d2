-- Widths against needs.
use Rattle.column_widths.proofs.Common.{◌≡◌, ℕ, ◌+◌, ◌-◌, ◌*◌, ◌/◌, ◌<◌, ◌≤◌, Bool, true, false, cond, ◌&&◌, ltb, List, [], ◌∷◌, map, length, get_or, refl, sym, ap, ◌∙◌, ⊎_elim, zero-add, arith}
use Rattle.column_widths.proofs.Common.{sum_by, enumerate_from, AllZip, Each, get_or-map, length-enumerate_from, get_or-enumerate_from, cases_lt, lt-ltb, le-ltb, false≢true, div_below}
use Rattle.column_widths.proofs.Common.{lt-mul-div-succ, Need, Greatest, width_of, slack, share, gets_one, width_at, shared, IsWithinNeed}
use Rattle.std.proofs.lemmas.Bool.{ltb-true, ltb-false}
use Rattle.std.proofs.lemmas.Nat.{le-div}
use Rattle.std.proofs.Math.Nat.{mul-le-mul_left, div-mul-le_self}
use Rattle.column_widths.specs.Widths.{rank}
use Rattle.column_widths.proofs.Ordered.{IsOrdered}
use Rattle.column_widths.proofs.Ranks.{after_ranks}
use Rattle.column_widths.proofs.LeftOver.{by_need}
use Rattle.column_widths.proofs.Shares.{share_below_slack, share_within_slack}

-- a column that gets one of those left over can be wider
gets_wider : (left : ℕ) (columns : List (ℕ × Need)) (p : ℕ × Need) → gets_one left columns p ≡ true → 0 < slack p.1
gets_wider left columns p h =
    ⊎_elim (λ wider. wider)
    (λ full. absurd (false≢true (sym (ap (λ b. b && ltb (rank columns p) left) (le-ltb 0 (slack p.1) full)) ∙ h)))
    (cases_lt 0 (slack p.1))

-- a share, and one of those left over, are within the slack
pub share_and_one : (extra all left : ℕ) (columns : List (ℕ × Need)) (p : ℕ × Need) → extra < all →
    share extra all p.1 + cond (gets_one left columns p) 1 0 ≤ slack p.1
share_and_one extra all left columns p less =
    let go : (b : Bool) → gets_one left columns p ≡ b → share extra all p.1 + cond b 1 0 ≤ slack p.1 = λ b.
    elim b as (λ v. gets_one left columns p ≡ v → share extra all p.1 + cond v 1 0 ≤ slack p.1) [
      | true ↦ λ h. let below = share_below_slack extra all p.1 less (gets_wider left columns p h) in omega arith
      | false ↦ λ h. let within = share_within_slack extra all p.1 less in omega arith
    ] in
    go (gets_one left columns p) refl

widths_within : (extra all left i : ℕ) (columns : List (ℕ × Need)) (ns : List Need) → extra < all → Each IsOrdered ns →
    AllZip IsWithinNeed ns (map (width_at extra all left columns) (enumerate_from i ns))
widths_within extra all left i columns [] less h = tt
widths_within extra all left i columns (n ∷ ns) less h =
    let more = share_and_one extra all left columns (i, n) less in
    let ordered = h.0 in
    ((omega arith, omega arith), widths_within extra all left (i + 1) columns ns less h.1)

pub shared_within : (extra : ℕ) (ns : List Need) → extra < sum_by slack ns → Each IsOrdered ns → AllZip IsWithinNeed ns (shared extra ns)
shared_within extra ns less h = widths_within extra (sum_by slack ns) _ 0 (enumerate_from 0 ns) ns less h

pub greatest_within_need : (ns : List Need) → Each IsOrdered ns → AllZip IsWithinNeed ns (map (width_of Greatest) ns)
greatest_within_need [] h = tt
greatest_within_need (n ∷ ns) h = ((h.0, omega arith), greatest_within_need ns h.1)

-- a share of more slack is more by at most as much
share_more : (extra all s d : ℕ) → extra < all → extra * (s + d) / all ≤ extra * s / all + d
share_more extra all s d less =
    let some : 0 < all = omega arith in
    let one = lt-mul-div-succ (extra * s) {b = all} some in
    let rest = mul-le-mul_left {m = extra} {n = all} d (omega arith) in
    let below = div_below (extra * (s + d)) all (extra * s / all + d + 1) some (omega arith) in
    omega arith

div_mono : (a b k : ℕ) → a ≤ b → 0 < k → a / k ≤ b / k
div_mono a b k h some = let within = div-mul-le_self a k in le-div (a / k) b k some (omega arith)

-- before what is left over is given out, a wider need has no less
share_mono : (extra all : ℕ) (m n : Need) → extra < all → m.least ≤ n.least → m.greatest ≤ n.greatest →
    m.least + share extra all m ≤ n.least + share extra all n
share_mono extra all m n less least greatest =
    let d = slack m - slack n in
    let up = share_more extra all (slack n) d less in
    let step : extra * slack m / all ≤ extra * (slack n + d) / all =
    div_mono (extra * slack m) (extra * (slack n + d)) all
    (mul-le-mul_left {m = slack m} {n = slack n + d} extra (omega arith)) (omega arith) in
    ⊎_elim
    (λ more. omega (arith, up, step))
    (λ fewer. omega (arith, div_mono (extra * slack m) (extra * slack n) all (mul-le-mul_left {m = slack m} {n = slack n} extra fewer) (omega arith)))
    (cases_lt (slack n) (slack m))

-- the wider need is as far in front as the narrower one
wider_ranks : (columns : List (ℕ × Need)) (p q : ℕ × Need) → p.1.greatest < q.1.greatest → rank columns q ≤ rank columns p
wider_ranks columns p q h = after_ranks by_need columns q p (rw (lt-ltb p.1.greatest q.1.greatest h) refl)

-- what a column gets of those left over, and one with a wider need does not
one_alone : (left : ℕ) (columns : List (ℕ × Need)) (p q : ℕ × Need) → p.1.greatest < q.1.greatest →
    gets_one left columns p ≡ true → gets_one left columns q ≡ false → q.1.greatest ≤ q.1.least
one_alone left columns p q greatest h g =
    let ranks = wider_ranks columns p q greatest in
    let wider : ltb 0 (slack p.1) ≡ true = lt-ltb 0 (slack p.1) (gets_wider left columns p h) in
    let in_front = ltb-true (rank columns p) left (sym (ap (λ b. b && ltb (rank columns p) left) wider) ∙ h) in
    ⊎_elim
    (λ (more : 0 < slack q.1).
    let far = ltb-false (rank columns q) left (sym (ap (λ b. b && ltb (rank columns q) left) (lt-ltb 0 (slack q.1) more)) ∙ g) in
    absurd (omega (arith, ranks, in_front, far)))
    (λ (full : slack q.1 ≤ 0). omega arith)
    (cases_lt 0 (slack q.1))

-- the widths of two columns, by what they get of those left over
one_more_keeps : (p_least p_greatest p_share q_least q_greatest q_share : ℕ) (b c : Bool) → p_greatest < q_greatest →
    p_least + p_share ≤ q_least + q_share → p_share + cond b 1 0 ≤ p_greatest - p_least →
    (b ≡ true → c ≡ false → q_greatest ≤ q_least) → p_least + p_share + cond b 1 0 ≤ q_least + q_share + cond c 1 0
one_more_keeps pl pg ps ql qg qs true true greatest base most alone = omega arith
one_more_keeps pl pg ps ql qg qs true false greatest base most alone = let narrow = alone refl refl in omega arith
one_more_keeps pl pg ps ql qg qs false true greatest base most alone = omega arith
one_more_keeps pl pg ps ql qg qs false false greatest base most alone = omega arith

-- a wider need never gets less
pub wider_gets_no_less : (extra all left : ℕ) (columns : List (ℕ × Need)) (p q : ℕ × Need) → extra < all →
    p.1.least ≤ q.1.least → p.1.greatest < q.1.greatest →
    width_at extra all left columns p ≤ width_at extra all left columns q
wider_gets_no_less extra all left columns p q less least greatest =
    one_more_keeps p.1.least p.1.greatest (share extra all p.1) q.1.least q.1.greatest (share extra all q.1)
    (gets_one left columns p) (gets_one left columns q) greatest
    (share_mono extra all p.1 q.1 less least (omega arith)) (share_and_one extra all left columns p less)
    (one_alone left columns p q greatest)

-- the same for two places
pub shared_no_less : (extra : ℕ) (ns : List Need) (i j : ℕ) (d : Need) → extra < sum_by slack ns → i < length ns → j < length ns →
    (get_or ns i d).least ≤ (get_or ns j d).least → (get_or ns i d).greatest < (get_or ns j d).greatest →
    get_or (shared extra ns) i 0 ≤ get_or (shared extra ns) j 0
shared_no_less extra ns i j d less h g least greatest =
    let columns = enumerate_from 0 ns in
    let all = sum_by slack ns in
    let left = extra - sum_by (share extra all) ns in
    let at : (k : ℕ) → k < length ns → get_or (shared extra ns) k 0 ≡ width_at extra all left columns (k, get_or ns k d) = λ k l.
    get_or-map (width_at extra all left columns) columns k (0, d) 0 (rw length-enumerate_from l)
    ∙ ap (width_at extra all left columns) (get_or-enumerate_from 0 ns k (0, d) l ∙ ap (λ m. (m, get_or ns k d)) (zero-add k)) in
    rw (at i h, at j g) (wider_gets_no_less extra all left columns (i, get_or ns i d) (j, get_or ns j d) less least greatest)
