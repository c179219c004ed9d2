use Rattle.tbr_rows.proofs.Common.{◌≡◌, suc, ◌-◌, ◌<◌, List, [], ◌∷◌, length, get_or, refl, arith, rules, IfOk-weaker, Cell, end_of, row_width}
use Rattle.tbr_rows.proofs.line_set.row_width.Goals as goal

-- the row ends with its last cell
last_ends : {A : Type 0} (cs : List (Cell A)) (d : Cell A) → 0 < length cs → end_of (get_or cs (length cs - 1) d) ≡ row_width cs
last_ends [] d h = absurd (omega arith)
last_ends (c ∷ []) d h = refl
last_ends (c ∷ e ∷ cs) d h = let less : length (c ∷ e ∷ cs) - 1 ≡ suc (length (e ∷ cs) - 1) = omega arith in rw less (last_ends (e ∷ cs) d (omega arith))

pub returns-in-Some : goal.returns-in-Some
returns-in-Some g c = search (rules, IfOk-weaker, last_ends, c.in-Some.ensures.item.1, c.in-Some.ensures.item.3.0, c.end.ensures)
