use Rattle.tbr_model.proofs.Common.{◌≡◌, drop, kept_items, entry_values}
use Rattle.tbr_model.specs.Run as run
use Rattle.tbr_model.proofs.word.has_character.Given as goal

abbrev pub invariant-loop-entry : goal.invariant-loop-entry
invariant-loop-entry g l =
    run.has_character (kept_items g.W.CharWidth.columns (entry_values l.entries))
    ≡ run.has_character (kept_items g.W.CharWidth.columns (entry_values (drop l.entry-index l.entries)))
