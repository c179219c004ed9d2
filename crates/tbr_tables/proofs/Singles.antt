-- Cells of one column each.
use Rattle.std.proofs.Common.{◌≡◌, ℕ, zero, suc, ◌+◌, ◌-◌, ◌<◌, List, [], ◌∷◌, ◌++◌, refl, arith, append_assoc}
use Rattle.tbr_tables.specs.declared.grid.Spot.{Spot}
use Rattle.tbr_tables.specs.Grid.{singles}

abbrev pub single : ℕ → Spot
single column = record { column = column; end = column + 1; rows = 1 }

-- the first of them
pub singles_more : (column n : ℕ) → 0 < n → singles column n ≡ single column ∷ singles (column + 1) (n - 1)
singles_more column zero h = absurd (omega (arith, h))
singles_more column (suc n) h =
    let e : suc n - 1 ≡ n = omega arith in
    rw e refl

-- one of them comes after others
pub singles_step : (spots more : List Spot) (column to : ℕ) → column < to → more ≡ spots ++ single column ∷ [] →
    more ++ singles (column + 1) (to - (column + 1)) ≡ spots ++ singles column (to - column)
singles_step spots more column to h e =
    let left : to - (column + 1) ≡ to - column - 1 = omega (arith, h) in
    let first = singles_more column (to - column) (omega (arith, h)) in
    rw (e, left, first, append_assoc) refl
