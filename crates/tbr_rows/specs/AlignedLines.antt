-- A block's lines, filled up to a width.
use Rattle.std.specs.Prelude.{ℕ, List, [], ◌∷◌}
use Rattle.tbr_model.specs.Run.{Item}
use Rattle.tbr_tagged.specs.declared.padding.CellAlign.{CellAlign}
use Rattle.tbr_tagged.specs.Padding.{aligned_items}

-- lines, each with the columns that it lacks as spaces
abbrev pub each_aligned : {A : Type 0} → CellAlign → A → List (List (Item A)) → List ℕ → List (List (Item A))
each_aligned align a [] missing = []
each_aligned align a (is ∷ lines) [] = []
each_aligned align a (is ∷ lines) (n ∷ missing) = aligned_items align is n a ∷ each_aligned align a lines missing
