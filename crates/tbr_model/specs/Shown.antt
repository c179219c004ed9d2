-- What the lines of a run show besides its visible characters and its markers, in every mode.
use Rattle.std.specs.Prelude.{◌≡◌, ◌≢◌, ℕ, ◌+◌, ◌-◌, ◌%◌, ◌<◌, ◌⊎◌, Bool, true, false, not, ◌&&◌, ◌||◌, ◌==◌, nat_lt, if◌then◌else◌, Option, unwrap_or, List, [], ◌∷◌, ◌++◌, filter, length, Contains}
use Rattle.std.specs.Char.{is_whitespace}
use Rattle.std.specs.List.{list_any, AllZip, AllByRecursion as Each}
use Rattle.tbr_model.specs.Codes.{tab_character, newline_character, space_character}
use Rattle.tbr_model.specs.declared.white_space.WhiteSpace.TheVariants.{Pre}
use Rattle.tbr_model.specs.WhiteSpace.{preserves}
use Rattle.tbr_model.specs.Run.{Entry, character, marker_entry, Item, glyph, marker, item_width, items_width}
use Rattle.tbr_model.specs.Layout.{joined}
use Rattle.tbr_model.specs.Laid.{nothing_laid, end_line, put_items}
use Rattle.tbr_model.specs.Rule.{Event, Progress, is_space_item, pending_width, progress, waiting}
use Rattle.tbr_model.specs.Markers.{names_in_items, marker_items}
use Rattle.tbr_model.specs.Hard.{entry_letters, is_visible, visible_glyphs, visible_entries, IsShown, HasMain, HasContinuation}

-- without U+0020, as which gaps are laid
abbrev pub without_spaces : {A : Type 0} → List (Item A) → List (Item A)
without_spaces is = filter (λ i. not (is_space_item i)) is

-- the names of the markers that wait where a run ends
abbrev pub names_waiting : {A : Type 0} → (ℕ → Option ℕ) → ℕ → List (Event A) → List (List ℕ)
names_waiting columns width es = names_in_items (waiting columns width (progress columns width es))

-- ---- what may be on lines

-- an entry of the run has the annotation, as its own or for where its hard line goes on
abbrev pub HasAnnotation : {A : Type 0} → (A → A → Type 0) → List (Entry A) → A → Type 0
HasAnnotation {A} Same run x = (e : Entry A) × Contains run e × (HasMain Same e x ⊎ HasContinuation Same e x)

-- a visible character, white space under an annotation of the run, or a marker of the run
abbrev pub ComesFrom : {A : Type 0} → (ℕ → Option ℕ) → (A → A → Type 0) → List (Entry A) → Item A → Type 0
ComesFrom columns Same run (glyph c x) =
    (is_visible columns c ≡ true) ⊎ ((is_whitespace c ≡ true) × HasAnnotation Same run x)
ComesFrom columns Same run (marker name) = Contains run (marker_entry name)

-- Nothing else is on the lines. The run's visible characters are there once (`ShowsVisible`).
abbrev pub InventsNothing : {A : Type 0} →
    (ℕ → Option ℕ) → (A → A → Type 0) → List (Entry A) → List (List (Item A)) → Type 0
InventsNothing columns Same run ls = Each (ComesFrom columns Same run) (joined ls)

-- U+0020 or a character of the run, under an annotation of the run, or a marker of the run
abbrev pub ComesWithRun : {A : Type 0} → (A → A → Type 0) → List (Entry A) → Item A → Type 0
ComesWithRun Same run (glyph c x) =
    HasAnnotation Same run x × ((c ≡ space_character) ⊎ Contains (entry_letters run) c)
ComesWithRun Same run (marker name) = Contains run (marker_entry name)

-- ---- order

-- a visible character, or a marker
abbrev pub is_visible_or_marker : {A : Type 0} → (ℕ → Option ℕ) → Item A → Bool
is_visible_or_marker columns (glyph c a) = is_visible columns c
is_visible_or_marker columns (marker name) = true

-- the same of an entry
abbrev pub is_entry_to_show : {A : Type 0} → (ℕ → Option ℕ) → Entry A → Bool
is_entry_to_show columns (character c a b m) = is_visible columns c
is_entry_to_show columns (marker_entry name) = true

-- a character is under an annotation of its call, and a marker has its name
abbrev pub ShowsEntry : {A : Type 0} → (A → A → Type 0) → Item A → Entry A → Type 0
ShowsEntry Same (glyph c x) e = IsShown Same (c, x) e
ShowsEntry Same (marker name) (character c a b m) = ⊥
ShowsEntry Same (marker name) (marker_entry other) = name ≡ other

-- The visible characters and the markers of a run are in lines, and then wait, once and in their order: so a marker
-- is between the same visible characters.
abbrev pub ShowsInOrder : {A : Type 0} → (ℕ → Option ℕ) → (A → A → Type 0) → List (Entry A)
    → List (List (Item A)) → List (List ℕ) → Type 0
ShowsInOrder columns Same run ls names =
    AllZip (ShowsEntry Same)
    (filter (is_visible_or_marker columns) (joined ls) ++ marker_items names)
    (filter (is_entry_to_show columns) run)

-- ---- own annotations

-- a character's mode isn't `Pre`
abbrev pub IsNotPre : {A : Type 0} → Entry A → Type 0
IsNotPre (character c a b m) = m ≢ Pre
IsNotPre (marker_entry name) = Unit {0}

-- a character is under its own annotation
abbrev pub StandsUnderOwn : {A : Type 0} → (A → A → Type 0) → ℕ × A → Entry A → Type 0
StandsUnderOwn Same g (character c a b m) = (g.0 ≡ c) × Same g.1 a
StandsUnderOwn Same g (marker_entry name) = ⊥

-- The visible characters of a run are in lines once, in order, each under its own annotation.
abbrev pub ShowsOwn : {A : Type 0} →
    (ℕ → Option ℕ) → (A → A → Type 0) → List (Entry A) → List (List (Item A)) → Type 0
ShowsOwn columns Same run ls =
    AllZip (StandsUnderOwn Same) (visible_glyphs columns (joined ls)) (visible_entries columns run)

-- ---- columns

-- a visible character that takes columns
abbrev pub shows_columns : (ℕ → Option ℕ) → ℕ → Bool
shows_columns columns c = is_visible columns c && nat_lt 0 (unwrap_or (columns c) 0)

-- the run has one
abbrev pub run_shows_columns : {A : Type 0} → (ℕ → Option ℕ) → List (Entry A) → Bool
run_shows_columns columns run = list_any (shows_columns columns) (entry_letters run)

-- a line has ended, or the open line or the word takes columns
abbrev pub HasColumns : {A : Type 0} → (ℕ → Option ℕ) → Progress A → Type 0
HasColumns columns p = (0 < length p.laid.done) ⊎ (0 < p.laid.width) ⊎ (0 < items_width columns p.word)

-- ---- where lines end

-- the columns of the open line, the space that waits and the word
abbrev pub columns_so_far : {A : Type 0} → (ℕ → Option ℕ) → Progress A → ℕ
columns_so_far columns p = p.laid.width + (pending_width p.space + items_width columns p.word)

-- the next multiple of eight, up to which a tab fills
abbrev pub next_stop : ℕ → ℕ
next_stop n = n + (8 - n % 8)

-- a newline or a tab in a mode that preserves it
abbrev pub is_newline_or_tab : {A : Type 0} → Entry A → Bool
is_newline_or_tab (character c a b mode) = preserves mode && ((c == newline_character) || (c == tab_character))
is_newline_or_tab (marker_entry name) = false

-- the lines and one more after them
abbrev pub HasOneMore : {X : Type 0} → List X → List X → Type 0
HasOneMore {X} ls ms = (line : X) × (ms ≡ ls ++ line ∷ [])

-- the columns of the first item that takes some
abbrev pub first_columns : {A : Type 0} → (ℕ → Option ℕ) → List (Item A) → ℕ
first_columns columns [] = 0
first_columns columns (i ∷ is) = if item_width columns i == 0 then first_columns columns is else item_width columns i

-- After each line but the last, the first item of the next one that takes columns wouldn't have fitted.
abbrev pub EndWhereFull : {A : Type 0} → (ℕ → Option ℕ) → ℕ → List (List (Item A)) → Type 0
EndWhereFull columns width [] = Unit {0}
EndWhereFull columns width (l ∷ []) = Unit {0}
EndWhereFull columns width (l ∷ m ∷ ls) =
    (width < items_width columns l + first_columns columns m) × EndWhereFull columns width (m ∷ ls)

-- the lines on which a word is that begins a line, the open one too
abbrev pub word_lines : {A : Type 0} → (ℕ → Option ℕ) → ℕ → List (Item A) → List (List (Item A))
word_lines columns width word = (end_line (put_items columns width nothing_laid word)).done
