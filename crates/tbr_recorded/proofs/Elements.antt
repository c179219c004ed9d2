-- What holds of each element of a list.
use Rattle.std.proofs.Common.{ℕ, ◌<◌, List, [], ◌∷◌, length, get_or, zero, suc, arith}
use Rattle.std.specs.List.{AllByRecursion as Each}

-- it holds of the one at a place
pub each_get_or : {X : Type 0} (P : X → Type 0) (xs : List X) (i : ℕ) (d : X) → i < length xs → Each P xs → P (get_or xs i d)
each_get_or P [] i d below h = absurd (omega (arith, below))
each_get_or P (x ∷ xs) zero d below h = h.0
each_get_or P (x ∷ xs) (suc i) d below h = each_get_or P xs i d (omega (arith, below)) h.1
