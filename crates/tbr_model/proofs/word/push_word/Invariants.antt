use Rattle.tbr_model.proofs.Common.{◌≡◌, ◌++◌, true, drop, option_copied, ℕ, Bool, false, Option, None, List, [], ◌∷◌, map, kept_items, Item, entry_values, slot_values, Slot, slot_of}
use Rattle.tbr_model.proofs.word.push_word.Given as goal

-- the slots of what is left of a word
abbrev slots_on : {A : Type 0} → (ℕ → Option ℕ) → Bool → Option A → Bool → List (Item A) → List (Slot A)
slots_on columns wider gap begins [] = []
slots_on columns wider gap begins (i ∷ is) = slot_of columns wider gap begins i ∷ map (slot_of columns wider None false) is

abbrev pub invariant-loop-entry : goal.invariant-loop-entry
invariant-loop-entry g l =
    let columns = g.W.CharWidth.columns in
    slot_values l.slots.items ++ slots_on columns l.wider (option_copied l.gap) l.begins (kept_items columns (entry_values (drop l.entry-index l.entries)))
    ≡ slot_values l.initial.slots.items ++ slots_on columns l.wider (option_copied l.initial.gap) true (kept_items columns (entry_values l.entries))
