-- A cell that is alone in its column.
use Rattle.column_widths.proofs.Common.{◌≡◌, ℕ, ◌+◌, ◌-◌, ◌*◌, ◌<◌, ◌≤◌, true, false, cond, eqb, [], ◌∷◌, refl, ap, ◌∙◌, arith, add-zero, ⊎_elim, cases_lt, Need, Bound, Least, Greatest, width_of}
use Rattle.column_widths.proofs.Common.{widened, filled}
use Rattle.std.proofs.Common.{max, eq-eqb}
use Rattle.std.proofs.lemmas.Bool.{ne_eqb}
use Rattle.std.proofs.Math.Nat.{div-one, mod-one}

abbrev pub need : ℕ → ℕ → Need
need least greatest = record { least = least; greatest = greatest }

-- one column is widened by all that is missing
filled_one : (bound : Bound) (line asked : ℕ) (n : Need) →
    filled bound line asked (n ∷ []) ≡ cond (eqb (asked - width_of bound n) 0) (n ∷ []) (widened bound (asked - width_of bound n) n ∷ [])
filled_one bound line asked n =
    let lack : asked - (0 + width_of bound n + line * 0) ≡ asked - width_of bound n = omega arith in
    rw (lack, div-one, mod-one, add-zero) refl

same_need : (a b c d : ℕ) → a ≡ c → b ≡ d → need a b ≡ need c d
same_need a b c d e f = rw (e, f) refl

-- its least width is the greater of what it was and what the cell asks
pub least_alone : (line asked : ℕ) (n : Need) → n.least ≤ n.greatest →
    filled Least line asked (n ∷ []) ≡ need (max n.least asked) (max n.greatest (max n.least asked)) ∷ []
least_alone line asked n ordered =
    filled_one Least line asked n ∙
    ⊎_elim
    (λ (less : n.least < asked).
    let some : eqb (asked - n.least) 0 ≡ false = ne_eqb (asked - n.least) 0 (λ e. omega arith) in
    rw some
    (ap (λ m. m ∷ [])
    (same_need (n.least + (asked - n.least)) (max n.greatest (n.least + (asked - n.least))) (max n.least asked)
    (max n.greatest (max n.least asked)) (omega arith) (omega arith))))
    (λ (enough : asked ≤ n.least).
    let none : eqb (asked - n.least) 0 ≡ true = eq-eqb (asked - n.least) 0 (omega arith) in
    rw none (ap (λ m. m ∷ []) (same_need n.least n.greatest (max n.least asked) (max n.greatest (max n.least asked)) (omega arith) (omega arith))))
    (cases_lt n.least asked)

-- and so is its greatest width
pub greatest_alone : (line asked : ℕ) (n : Need) → filled Greatest line asked (n ∷ []) ≡ need n.least (max n.greatest asked) ∷ []
greatest_alone line asked n =
    filled_one Greatest line asked n ∙
    ⊎_elim
    (λ (less : n.greatest < asked).
    let some : eqb (asked - n.greatest) 0 ≡ false = ne_eqb (asked - n.greatest) 0 (λ e. omega arith) in
    rw some (ap (λ m. m ∷ []) (same_need n.least (n.greatest + (asked - n.greatest)) n.least (max n.greatest asked) refl (omega arith))))
    (λ (enough : asked ≤ n.greatest).
    let none : eqb (asked - n.greatest) 0 ≡ true = eq-eqb (asked - n.greatest) 0 (omega arith) in
    rw none (ap (λ m. m ∷ []) (same_need n.least n.greatest n.least (max n.greatest asked) refl (omega arith))))
    (cases_lt n.greatest asked)
