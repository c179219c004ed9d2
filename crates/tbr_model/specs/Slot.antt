-- What a slot in memory means.
use Rattle.std.specs.Prelude.{List, map, option_copied}
use Rattle.tbr_model.specs.declared.slot.Slot.{Slot as StoredSlot}
use Rattle.tbr_model.specs.Layout.{Slot}
use Rattle.tbr_model.specs.Entry.{entry_value, item_of}

abbrev pub slot_value : {A : Type 0} → StoredSlot A → Slot A
slot_value s = record {
  item = item_of (entry_value s.entry.now);
  width = s.width;
  gap = option_copied s.gap;
  begins = s.begins;
  wider = s.wider;
}

abbrev pub slot_values : {A : Type 0} → List (StoredSlot A) → List (Slot A)
slot_values ss = map slot_value ss
