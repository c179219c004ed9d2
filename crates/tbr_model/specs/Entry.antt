-- What an entry in memory means.
use Rattle.std.specs.Prelude.{Bool, true, false, List, map, string_bytes}
use Rattle.tbr_model.specs.declared.entry.Entry.{Entry as StoredEntry}
use Rattle.tbr_model.specs.declared.entry.Entry.TheVariants.{Character, Marker}
use Rattle.tbr_model.specs.Run.{Entry, character, marker_entry, Item, glyph, marker}

-- A marker's name is its bytes.
abbrev pub entry_value : {A : Type 0} → StoredEntry A → Entry A
entry_value (Character c tag wrap_tag mode) = character c tag wrap_tag mode
entry_value (Marker name) = marker_entry (string_bytes name)

-- an entry as an item
abbrev pub item_of : {A : Type 0} → Entry A → Item A
item_of (character c a b mode) = glyph c a
item_of (marker_entry name) = marker name

-- whether an item is a character, and no marker
abbrev pub is_glyph : {A : Type 0} → Item A → Bool
is_glyph (glyph c a) = true
is_glyph (marker name) = false

abbrev pub entry_values : {A : Type 0} → List (StoredEntry A) → List (Entry A)
entry_values es = map entry_value es
