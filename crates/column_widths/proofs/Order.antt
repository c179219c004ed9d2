-- The order of columns by need.
use Rattle.column_widths.proofs.Common.{◌≡◌, ℕ, ◌<◌, Bool, true, false, not, ◌&&◌, eqb, ltb, arith, nat_tests}
use Rattle.std.proofs.Common.{◌||◌}

abbrev pub lexicographic : ℕ → ℕ → ℕ → ℕ → ℕ → ℕ → Bool
lexicographic a b i c d j = ltb c a || (eqb c a && (ltb d b || (eqb d b && ltb i j)))

pub lexicographic_trans : (a b i c d j e f k : ℕ) → lexicographic a b i c d j ≡ true → lexicographic c d j e f k ≡ true → lexicographic a b i e f k ≡ true
lexicographic_trans a b i c d j e f k g h = grind (arith, nat_tests)

pub lexicographic_total : (a b i c d j : ℕ) → i < j → lexicographic a b i c d j ≡ not (lexicographic c d j a b i)
lexicographic_total a b i c d j h = grind (arith, nat_tests)

pub lexicographic_irrefl : (a b i : ℕ) → lexicographic a b i a b i ≡ false
lexicographic_irrefl a b i = grind (arith, nat_tests)
