-- Markers that are left where a run of Normal mode ends.
use Rattle.tbr_model.proofs.Common.{◌≡◌, ℕ, Option, List, Each, Normal, trailing, Event, run_of, progress, finished, waiting, HasMode}
use Rattle.tbr_model.proofs.normal.StaysLaid.{AllLaid, IsNarrowItem}
use Rattle.tbr_model.proofs.normal.BestLines.{normal_end}

-- the trailing markers wait where a run ends
pub normal_waiting : {A : Type 0} (columns : ℕ → Option ℕ) (width : ℕ) (es : List (Event A)) →
    Each (HasMode Normal) (run_of es) →
    AllLaid (IsNarrowItem columns width) (finished columns width (progress columns width es)) →
    waiting columns width (progress columns width es) ≡ trailing columns (run_of es)
normal_waiting columns width es modes all = (normal_end columns width es modes all).2
