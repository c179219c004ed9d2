use Rattle.tbr_model.proofs.Common.{◌≡◌, ◌+◌, ◌-◌, length, slot_values, TellsRests}
use Rattle.tbr_model.proofs.best.solved_rests.Given as goal

abbrev pub invariant-loop-from : goal.invariant-loop-from
invariant-loop-from g l =
    TellsRests l.width (slot_values l.slots) (length l.slots - l.from + 1) l.solved.items × (length l.solved.items ≡ length l.slots - l.from + 1)
