use Rattle.tbr_model.proofs.Common.{◌≡◌, ◌+◌, drop, items_width, kept_items, entry_values}
use Rattle.tbr_model.proofs.word.is_wider.Given as goal

abbrev pub invariant-loop-entry : goal.invariant-loop-entry
invariant-loop-entry g l =
    let columns = g.W.CharWidth.columns in
    l.taken + items_width columns (kept_items columns (entry_values (drop l.entry-index l.entries))) ≡ items_width columns (kept_items columns (entry_values l.entries))
