-- Lines that are as long as can be, as private contracts name them.
use Rattle.std.specs.Prelude.{ℕ, ◌-◌, ◌<◌, ◌≤◌, ◌↔◌, Bool, false, IsTrue, List, length, take, drop, slice_index_or}
use Rattle.tbr_model.specs.Layout.{Slot, IsLegalLine, IsLongest}
use Rattle.tbr_model.specs.Cuts.{HasLegalLayout}

-- The first items of the slots, up to this end, are a legal line, and the longest after which a line may begin. The
-- rest has a legal layout.
pub record IsLongestLine {A : Type 0} (width : ℕ) (slots : List (Slot A)) (end : ℕ) : Type 0 where
  pub some : 0 < end
  pub within : end ≤ length slots
  pub legal : IsLegalLine width (take end slots)
  pub rest : HasLegalLayout width (drop end slots)
  pub longest : IsLongest width (take end slots) (drop end slots)

-- For each number of last slots below n, whether they have a legal layout.
pub record TellsRests {A : Type 0} (width : ℕ) (slots : List (Slot A)) (n : ℕ) (solved : List Bool) : Type 0 where
  pub long : n ≤ length solved
  pub at : (k : ℕ) → k < n →
      IsTrue (slice_index_or solved k false) ↔ HasLegalLayout width (drop (length slots - k) slots)
