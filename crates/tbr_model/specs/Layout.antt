-- Layouts of a run's words in lines, which are legal, and which is best.
use Rattle.std.specs.Prelude.{◌≡◌, ℕ, ◌+◌, ◌<◌, ◌≤◌, Bool, true, false, not, ◌&&◌, ◌||◌, nat_lt, IsTrue, List, [], ◌∷◌, ◌++◌, map, flat_map, length, take, Option, Some, None}
use Rattle.std.specs.List.{AllByRecursion as Each}
use Rattle.tbr_model.specs.Codes.{space_character}
use Rattle.tbr_model.specs.Run.{Entry, Item, glyph, item_width, items_width, kept_items, has_character, Word, words_of}

-- An item of a run, with what a line has to know of it. That is its width, whether it begins a word and after which
-- gap, and whether its word is wider than a line.
pub record Slot (A : Type 0) : Type 0 where
  pub item : Item A
  pub width : ℕ
  pub gap : Option A
  pub begins : Bool
  pub wider : Bool

abbrev pub slot_of : {A : Type 0} → (ℕ → Option ℕ) → Bool → Option A → Bool → Item A → Slot A
slot_of columns wider gap begins i = record {
  item = i;
  width = item_width columns i;
  gap = gap;
  begins = begins;
  wider = wider;
}

abbrev pub slots_within : {A : Type 0} → (ℕ → Option ℕ) → Bool → Option A → List (Item A) → List (Slot A)
slots_within columns wider gap [] = []
slots_within columns wider gap (i ∷ is) = slot_of columns wider gap true i ∷ map (slot_of columns wider None false) is

-- the slots of a word, in lines of the given width
abbrev pub word_slots : {A : Type 0} → (ℕ → Option ℕ) → ℕ → Word A → List (Slot A)
word_slots columns width w = slots_within columns (nat_lt width (items_width columns w.items)) w.gap w.items

-- the slots of a run
abbrev pub slots_of : {A : Type 0} → (ℕ → Option ℕ) → ℕ → List (Entry A) → List (Slot A)
slots_of columns width run = flat_map (word_slots columns width) (words_of columns run)

-- A space after other items of the line takes a column.
abbrev pub gap_width : {A : Type 0} → Option A → ℕ
gap_width None = 0
gap_width (Some a) = 1

-- the columns of slots that are after others
abbrev pub rest_width : {A : Type 0} → List (Slot A) → ℕ
rest_width [] = 0
rest_width (s ∷ ss) = (gap_width s.gap + s.width) + rest_width ss

-- The columns of a line. The gap before its first item vanishes.
abbrev pub line_width : {A : Type 0} → List (Slot A) → ℕ
line_width [] = 0
line_width (s ∷ ss) = s.width + rest_width ss

-- the text of slots that are after others, with a space at each spaced gap
abbrev pub gap_text : {A : Type 0} → Option A → List (Item A)
gap_text None = []
gap_text (Some a) = glyph space_character a ∷ []

abbrev pub rest_text : {A : Type 0} → List (Slot A) → List (Item A)
rest_text [] = []
rest_text (s ∷ ss) = (gap_text s.gap ++ s.item ∷ []) ++ rest_text ss

-- The text of a line: its items in order, and a space under the gap's annotation at each spaced gap strictly inside it.
abbrev pub line_text : {A : Type 0} → List (Slot A) → List (Item A)
line_text [] = []
line_text (s ∷ ss) = s.item ∷ rest_text ss

-- whether a line has a character, and not markers alone
abbrev pub line_has_character : {A : Type 0} → List (Slot A) → Bool
line_has_character line = has_character (map (λ s. s.item) line)

-- A line begins where a word begins, or inside a word wider than it.
abbrev pub MayBegin : {A : Type 0} → Slot A → Type 0
MayBegin s = IsTrue (s.begins || s.wider)

-- In the middle of a line no wider word begins.
abbrev pub MayFollow : {A : Type 0} → Slot A → Type 0
MayFollow s = IsTrue (not (s.begins && s.wider))

abbrev pub FirstMayBegin : {A : Type 0} → List (Slot A) → Type 0
FirstMayBegin [] = Unit {0}
FirstMayBegin (s ∷ ss) = MayBegin s

abbrev pub OthersMayFollow : {A : Type 0} → List (Slot A) → Type 0
OthersMayFollow [] = Unit {0}
OthersMayFollow (s ∷ ss) = Each MayFollow ss

-- A legal line of the given width.
pub record IsLegalLine {A : Type 0} (width : ℕ) (line : List (Slot A)) : Type 0 where
  pub fits : line_width line ≤ width
  pub first : FirstMayBegin line
  pub others : OthersMayFollow line

-- the lines, one after another
abbrev pub joined : {X : Type 0} → List (List X) → List X
joined [] = []
joined (l ∷ ls) = l ++ joined ls

-- A legal layout of the slots: cuts at which lines end, so that each line is legal. Lines may be empty.
pub record IsLegal {A : Type 0} (width : ℕ) (slots : List (Slot A)) (lines : List (List (Slot A))) : Type 0 where
  pub whole : joined lines ≡ slots
  pub each : Each (IsLegalLine width) lines

abbrev pub HasLegalLines : {A : Type 0} → ℕ → List (Slot A) → Type 0
HasLegalLines {A} width slots = (lines : List (List (Slot A))) × IsLegal width slots lines

-- no item of the run is wider than a line
abbrev pub AllItemsFit : {A : Type 0} → (ℕ → Option ℕ) → ℕ → List (Entry A) → Type 0
AllItemsFit columns width run = Each (λ i. item_width columns i ≤ width) (kept_items columns run)

-- How many items a layout has placed after n lines.
abbrev pub placed : {X : Type 0} → ℕ → List (List X) → ℕ
placed n lines = length (joined (take n lines))

-- After every n lines it has placed at least as much as the other.
abbrev pub IsAhead : {X : Type 0} → List (List X) → List (List X) → Type 0
IsAhead lines others = (n : ℕ) → placed n others ≤ placed n lines

abbrev pub HasNoEmptyLine : {X : Type 0} → List (List X) → Type 0
HasNoEmptyLine lines = Each (λ l. 0 < length l) lines

-- The layout that is ahead of every legal one.
pub record IsBest {A : Type 0} (width : ℕ) (slots : List (Slot A)) (lines : List (List (Slot A))) : Type 0 where
  pub legal : IsLegal width slots lines
  pub full : HasNoEmptyLine lines
  pub ahead : (others : List (List (Slot A))) → IsLegal width slots others → IsAhead lines others

-- No longer line could be here, whatever of the rest it took.
abbrev pub IsLongest : {A : Type 0} → ℕ → List (Slot A) → List (Slot A) → Type 0
IsLongest {A} width line rest =
    (more others : List (Slot A)) → more ++ others ≡ rest → 0 < length more → FirstMayBegin others →
    ¬ (IsLegalLine width (line ++ more))

-- Each line is as long as a legal line can be there.
abbrev pub IsGreedy : {A : Type 0} → ℕ → List (List (Slot A)) → Type 0
IsGreedy width [] = Unit {0}
IsGreedy width (l ∷ ls) = IsLongest width l (joined ls) × IsGreedy width ls
