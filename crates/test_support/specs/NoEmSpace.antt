-- A width instance that gives the em space no column.
use Rattle.std.specs.Prelude.{◌≡◌, ℕ, ◌≤◌, ◌==◌, Bool, true, false, if◌then◌else◌, Option, Some, IfSome, IsTrue, refl}
use Rattle.std.proofs.Common.{arith}
use Rattle.std.proofs.lemmas.Bool.{eqb-true}
use Rattle.tbr_model.specs.Width.{takes_one_column}
use Rattle.test_support.specs.EveryOne.{every_one, every_one_at_most_two, every_one_drawn}

-- U+2003
abbrev pub em_space : ℕ
em_space = 0x2003

abbrev pub no_em_space : ℕ → Option ℕ
no_em_space c = if c == em_space then Some 0 else every_one c

pub no_em_space_at_most_two : (c : ℕ) → IfSome (no_em_space c) (λ n. n ≤ 2)
no_em_space_at_most_two c = go (c == em_space)
  where
    go : (b : Bool) → IfSome (if b then Some 0 else every_one c) (λ n. n ≤ 2)
    go true = omega arith
    go false = every_one_at_most_two c

-- the em space is not among the characters that take one column
pub no_em_space_drawn : (c : ℕ) → IsTrue (takes_one_column c) → no_em_space c ≡ Some 1
no_em_space_drawn c h = go (c == em_space) refl
  where
    go : (b : Bool) → (c == em_space) ≡ b → (let n : Option ℕ = if b then Some 0 else every_one c in n ≡ Some 1)
    go true e = let is : c ≡ em_space = eqb-true c em_space e in let no : IsTrue (takes_one_column em_space) = rw is at h in absurd (let never : false ≡ true = no in cc)
    go false e = every_one_drawn c h
