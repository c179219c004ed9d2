-- A width instance whose widths need no table.
use Rattle.std.specs.Prelude.{◌≡◌, ℕ, ◌≤◌, ◌==◌, Bool, true, false, if◌then◌else◌, Option, Some, IfSome, IsTrue, refl}
use Rattle.std.proofs.Common.{arith}
use Rattle.std.proofs.lemmas.Bool.{eqb-true}
use Rattle.tbr_model.specs.Width.{stroke, takes_one_column}

-- one column for every character but the stroke
abbrev pub every_one : ℕ → Option ℕ
every_one c = if c == stroke then Some 0 else Some 1

pub every_one_at_most_two : (c : ℕ) → IfSome (every_one c) (λ n. n ≤ 2)
every_one_at_most_two c = go (c == stroke)
  where
    go : (b : Bool) → IfSome (if b then Some 0 else Some 1) (λ n. n ≤ 2)
    go true = omega arith
    go false = omega arith

-- the stroke is not among the characters that take one column
pub every_one_drawn : (c : ℕ) → IsTrue (takes_one_column c) → every_one c ≡ Some 1
every_one_drawn c h = go (c == stroke) refl
  where
    go : (b : Bool) → (c == stroke) ≡ b → (let n : Option ℕ = if b then Some 0 else Some 1 in n ≡ Some 1)
    go true e = let is : c ≡ stroke = eqb-true c stroke e in let no : IsTrue (takes_one_column stroke) = rw is at h in absurd (let never : false ≡ true = no in cc)
    go false e = refl
