-- Runs, items, slots and lines under other annotations.
use Rattle.std.specs.Prelude.{◌≡◌, Bool, true, List, map}
use Rattle.std.specs.Option.{option_map}
use Rattle.tbr_model.specs.Run.{Entry, character, marker_entry, Item, glyph, marker, Word, Reading}
use Rattle.tbr_model.specs.Layout.{Slot}
use Rattle.tbr_model.specs.Laid.{Laid}
use Rattle.tbr_model.specs.Rule.{Event, call, entry, Space, Progress}

abbrev pub map_item : {A B : Type 0} → (A → B) → Item A → Item B
map_item f (glyph c a) = glyph c (f a)
map_item f (marker name) = marker name

abbrev pub map_items : {A B : Type 0} → (A → B) → List (Item A) → List (Item B)
map_items f is = map (map_item f) is

abbrev pub map_entry : {A B : Type 0} → (A → B) → Entry A → Entry B
map_entry f (character c a b mode) = character c (f a) (f b) mode
map_entry f (marker_entry name) = marker_entry name

abbrev pub map_run : {A B : Type 0} → (A → B) → List (Entry A) → List (Entry B)
map_run f run = map (map_entry f) run

abbrev pub map_word : {A B : Type 0} → (A → B) → Word A → Word B
map_word f w = record { gap = option_map f w.gap; items = map_items f w.items }

abbrev pub map_reading : {A B : Type 0} → (A → B) → Reading A → Reading B
map_reading f r = record {
  words = map (map_word f) r.words;
  gap = option_map f r.gap;
  items = map_items f r.items;
}

abbrev pub map_slot : {A B : Type 0} → (A → B) → Slot A → Slot B
map_slot f s = record {
  item = map_item f s.item;
  width = s.width;
  gap = option_map f s.gap;
  begins = s.begins;
  wider = s.wider;
}

-- the slots of a line, or of a run
abbrev pub map_slots : {A B : Type 0} → (A → B) → List (Slot A) → List (Slot B)
map_slots f ss = map (map_slot f) ss

-- lines of slots
abbrev pub map_layout : {A B : Type 0} → (A → B) → List (List (Slot A)) → List (List (Slot B))
map_layout f lines = map (map_slots f) lines

-- lines of items
abbrev pub map_lines : {A B : Type 0} → (A → B) → List (List (Item A)) → List (List (Item B))
map_lines f lines = map (map_items f) lines

-- events, and where a block is in a run
abbrev pub map_event : {A B : Type 0} → (A → B) → Event A → Event B
map_event f call = call
map_event f (entry e) = entry (map_entry f e)

abbrev pub map_events : {A B : Type 0} → (A → B) → List (Event A) → List (Event B)
map_events f es = map (map_event f) es

abbrev pub map_laid : {A B : Type 0} → (A → B) → Laid A → Laid B
map_laid f l = record { done = map_lines f l.done; line = map_items f l.line; width = l.width }

abbrev pub map_space : {A B : Type 0} → (A → B) → Space A → Space B
map_space f s = record { width = s.width; tag = f s.tag; mode = s.mode }

abbrev pub map_progress : {A B : Type 0} → (A → B) → Progress A → Progress B
map_progress f p = record {
  laid = map_laid f p.laid;
  space = option_map (map_space f) p.space;
  word = map_items f p.word;
  mode = p.mode;
  continuation_flag = p.continuation_flag;
  in_continuation = p.in_continuation;
}

-- an equality of annotations is kept
abbrev pub KeepsEqual : {A B : Type 0} → (A → B) → (A → A → Bool) → (B → B → Bool) → Type 0
KeepsEqual {A} f eq other = (x y : A) → eq x y ≡ true → other (f x) (f y) ≡ true
