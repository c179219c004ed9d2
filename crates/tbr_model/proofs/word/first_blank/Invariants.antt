use Rattle.tbr_model.proofs.Common.{◌≡◌, drop, entry_values}
use Rattle.tbr_model.specs.Regions as regions
use Rattle.tbr_model.proofs.word.first_blank.Given as goal

abbrev pub invariant-loop-entry : goal.invariant-loop-entry
invariant-loop-entry g l = regions.first_blank (entry_values l.entries) ≡ regions.first_blank (entry_values (drop l.entry-index l.entries))
