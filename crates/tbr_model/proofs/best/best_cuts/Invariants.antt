use Rattle.tbr_model.proofs.Common.{◌-◌, length, slot_values}
use Rattle.tbr_model.proofs.layouts.LongestLines.{CutsSoFar}
use Rattle.tbr_model.proofs.best.best_cuts.Given as goal

abbrev pub invariant-loop-from : goal.invariant-loop-from
invariant-loop-from g l = CutsSoFar l.width (slot_values l.slots) l.cuts.items l.from

abbrev pub decreases-loop-from : goal.decreases-loop-from
decreases-loop-from g l = length l.slots - l.from
