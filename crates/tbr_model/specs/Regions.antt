-- The words of a run as its working break points part it.
use Rattle.std.specs.Prelude.{◌≡◌, ℕ, Bool, false, ◌&&◌, nat_lt, IsTrue, if◌then◌else◌, Option, Some, None, take, slice_get, List, [], ◌∷◌, ◌++◌, flat_map, unwrap_or}
use Rattle.std.specs.List.{AllByRecursion as Each, list_any}
use Rattle.tbr_model.specs.Run.{Entry, character, marker_entry, Item, is_kept, is_break_entry, blank_of, first_of, has_character, kept_items, Word}

-- a kept character of positive width
abbrev pub takes_columns : {A : Type 0} → (ℕ → Option ℕ) → Entry A → Bool
takes_columns columns (character c a b mode) = is_kept columns c && nat_lt 0 (unwrap_or (columns c) 0)
takes_columns columns (marker_entry name) = false

-- A kept character of positive width is among the entries.
abbrev pub HasColumns : {A : Type 0} → (ℕ → Option ℕ) → List (Entry A) → Type 0
HasColumns columns es = IsTrue (list_any (takes_columns columns) es)

-- No break point among the entries has a kept character of positive width before it there.
abbrev pub NoBreakWorks : {A : Type 0} → (ℕ → Option ℕ) → List (Entry A) → Type 0
NoBreakWorks {A} columns es =
    (before : List (Entry A)) (e : Entry A) (after : List (Entry A)) → es ≡ before ++ e ∷ after →
    IsTrue (is_break_entry e) → ¬ HasColumns columns before

-- What is between two neighbouring working break points, or the run's start and the first, and the break point
-- after it.
pub record Region (A : Type 0) : Type 0 where
  pub content : List (Entry A)
  pub break : Entry A

-- the entries of a region, its break point last
abbrev pub region_entries : {A : Type 0} → Region A → List (Entry A)
region_entries r = r.content ++ r.break ∷ []

-- The first break point that works is the one after the content.
pub record EndsAtWorkingBreak {A : Type 0} (columns : ℕ → Option ℕ) (r : Region A) : Type 0 where
  pub is_break : IsTrue (is_break_entry r.break)
  pub works : HasColumns columns r.content
  pub none_before : NoBreakWorks columns r.content

-- The break point that ends the first region is at this place.
abbrev pub IsFirstWorkingBreak : {A : Type 0} → (ℕ → Option ℕ) → List (Entry A) → ℕ → Type 0
IsFirstWorkingBreak {A} columns es place =
    (e : Entry A) × (slice_get es place ≡ Some e)
    × EndsAtWorkingBreak columns (record { content = take place es; break = e })

-- The run is the regions, each with its break point after it, one after another, and the rest, where no break point
-- works.
pub record IsParted {A : Type 0} (columns : ℕ → Option ℕ) (run : List (Entry A))
    (regions : List (Region A)) (rest : List (Entry A)) : Type 0 where
  pub whole : flat_map region_entries regions ++ rest ≡ run
  pub each : Each (EndsAtWorkingBreak columns) regions
  pub last : NoBreakWorks columns rest

-- the annotation of the first white space other than U+00A0
abbrev pub first_blank : {A : Type 0} → List (Entry A) → Option A
first_blank [] = None
first_blank (e ∷ es) = first_of (blank_of e) (first_blank es)

-- The word of a region's content: its kept characters and markers. `before` is the break point that ended the word
-- before it, or nothing. The gap is spaced if white space other than U+00A0 is in `before` or in the content, and has
-- the annotation of the first.
abbrev pub word_after : {A : Type 0} → (ℕ → Option ℕ) → List (Entry A) → List (Entry A) → Word A
word_after columns before content = record {
  gap = first_blank (before ++ content);
  items = kept_items columns content;
}

-- The words of the regions after a break point, and of the rest, if that has a character.
abbrev pub words_after : {A : Type 0} →
    (ℕ → Option ℕ) → List (Entry A) → List (Region A) → List (Entry A) → List (Word A)
words_after columns before [] rest =
    if has_character (kept_items columns rest) then word_after columns before rest ∷ [] else []
words_after columns before (r ∷ rs) rest =
    word_after columns before r.content ∷ words_after columns (r.break ∷ []) rs rest

-- The words of the regions and the rest. No break point ended a word before the first, so its gap is from the run's
-- start on. It never counts, since the first word begins a line.
abbrev pub words_between : {A : Type 0} → (ℕ → Option ℕ) → List (Region A) → List (Entry A) → List (Word A)
words_between columns regions rest = words_after columns [] regions rest

-- the markers of a rest without a character
abbrev pub markers_left : {A : Type 0} → (ℕ → Option ℕ) → List (Entry A) → List (Item A)
markers_left columns rest = if has_character (kept_items columns rest) then [] else kept_items columns rest
