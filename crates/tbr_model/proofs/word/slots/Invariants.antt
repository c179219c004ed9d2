use Rattle.tbr_model.proofs.Common.{◌-◌, ◌≤◌, length, drop, slice_range, entry_values, slot_values}
use Rattle.tbr_model.proofs.words.SlotsByRegion.{HasRead}
use Rattle.tbr_model.proofs.word.slots.Given as goal

abbrev pub invariant-loop-place : goal.invariant-loop-place
invariant-loop-place g l =
    let run = entry_values l.run in
    HasRead g.W.CharWidth.columns l.width run (slot_values l.slots.items) (slice_range run l.opening l.from) (drop l.from run) × (l.opening ≤ l.from) × (l.from ≤ length l.run)

abbrev pub decreases-loop-place : goal.decreases-loop-place
decreases-loop-place g l = length l.run - l.from
