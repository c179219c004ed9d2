-- What a run is, and its words.
use Rattle.std.specs.Prelude.{ℕ, ◌+◌, Bool, true, false, not, ◌&&◌, ◌||◌, nat_lt, ◌==◌, if◌then◌else◌, List, [], ◌∷◌, ◌++◌, fold, flat_map, Option, Some, None, is_some, unwrap_or}
use Rattle.std.specs.Char.{is_whitespace}
use Rattle.tbr_model.specs.Codes.{no_break_space, zero_width_space}
use Rattle.tbr_model.specs.declared.white_space.WhiteSpace.{WhiteSpace}

-- A character with its annotation, the one it has where its hard line goes on, and its mode; or a marker by its name.
pub data Entry (A : Type 0) : Type 0 where
  character : ℕ → A → A → WhiteSpace → Entry A
  marker_entry : List ℕ → Entry A

-- An annotated character, or a marker.
pub data Item (A : Type 0) : Type 0 where
  glyph : ℕ → A → Item A
  marker : List ℕ → Item A

-- An item's columns; a character without a width counts 0, and so does a marker.
abbrev pub item_width : {A : Type 0} → (ℕ → Option ℕ) → Item A → ℕ
item_width columns (glyph c a) = unwrap_or (columns c) 0
item_width columns (marker name) = 0

abbrev pub items_width : {A : Type 0} → (ℕ → Option ℕ) → List (Item A) → ℕ
items_width columns [] = 0
items_width columns (i ∷ is) = item_width columns i + items_width columns is

-- U+00A0 takes space like any character that is no white space
abbrev pub always_takes_space : ℕ → Bool
always_takes_space c = not (is_whitespace c) || c == no_break_space

-- white space other than U+00A0
abbrev pub is_blank : ℕ → Bool
is_blank c = is_whitespace c && not (c == no_break_space)

-- U+200B, or white space other than U+00A0
abbrev pub is_break : ℕ → Bool
is_break c = c == zero_width_space || is_blank c

-- A character is kept if it has a width, isn't U+200B, and is U+00A0 or no white space.
abbrev pub is_kept : (ℕ → Option ℕ) → ℕ → Bool
is_kept columns c = is_some (columns c) && not (is_break c)

-- what an entry leaves in its word
abbrev pub items_of : {A : Type 0} → (ℕ → Option ℕ) → Entry A → List (Item A)
items_of columns (character c a b mode) = if is_kept columns c then glyph c a ∷ [] else []
items_of columns (marker_entry name) = marker name ∷ []

-- the kept characters and the markers of a run, in order
abbrev pub kept_items : {A : Type 0} → (ℕ → Option ℕ) → List (Entry A) → List (Item A)
kept_items columns run = flat_map (items_of columns) run

-- The annotation of white space other than U+00A0.
abbrev pub blank_of : {A : Type 0} → Entry A → Option A
blank_of (character c a b mode) = if is_blank c then Some a else None
blank_of (marker_entry name) = None

abbrev pub is_break_entry : {A : Type 0} → Entry A → Bool
is_break_entry (character c a b mode) = is_break c
is_break_entry (marker_entry name) = false

-- the earlier of the two
abbrev pub first_of : {A : Type 0} → Option A → Option A → Option A
first_of (Some a) o = Some a
first_of None o = o

abbrev pub has_character : {A : Type 0} → List (Item A) → Bool
has_character [] = false
has_character (glyph c a ∷ is) = true
has_character (marker name ∷ is) = has_character is

-- A word: the gap before it, spaced if there is an annotation, and its items. The first word's gap never counts, since
-- that word always begins a line.
pub record Word (A : Type 0) : Type 0 where
  pub gap : Option A
  pub items : List (Item A)

-- The words that working break points have ended, and of what came since: the first white space, and the items.
pub record Reading (A : Type 0) : Type 0 where
  pub words : List (Word A)
  pub gap : Option A
  pub items : List (Item A)

abbrev pub start : {A : Type 0} → Reading A
start = record { words = []; gap = None; items = [] }

-- A break point works if a character of positive width is between the last one that works and it.
abbrev pub works : {A : Type 0} → (ℕ → Option ℕ) → Reading A → Entry A → Bool
works columns r e = is_break_entry e && nat_lt 0 (items_width columns r.items)

abbrev pub word_of : {A : Type 0} → Reading A → Word A
word_of r = record { gap = r.gap; items = r.items }

-- A working break point ends the word, and the gap of the next word begins with it. Any other entry goes on.
abbrev pub read : {A : Type 0} → (ℕ → Option ℕ) → Reading A → Entry A → Reading A
read columns r e =
    if works columns r e
    then record { words = r.words ++ word_of r ∷ []; gap = blank_of e; items = [] }
    else record { words = r.words; gap = first_of r.gap (blank_of e); items = r.items ++ items_of columns e }

abbrev pub reading : {A : Type 0} → (ℕ → Option ℕ) → List (Entry A) → Reading A
reading columns run = fold (read columns) start run

-- The words of a run: the ended ones, and what is left, if that has a character.
abbrev pub words_of : {A : Type 0} → (ℕ → Option ℕ) → List (Entry A) → List (Word A)
words_of columns run =
    let r = reading columns run in
    if has_character r.items then r.words ++ word_of r ∷ [] else r.words

-- The markers that are left where no character is.
abbrev pub trailing : {A : Type 0} → (ℕ → Option ℕ) → List (Entry A) → List (Item A)
trailing columns run =
    let r = reading columns run in
    if has_character r.items then [] else r.items
