-- What is said of a run and of its lines.
use Rattle.std.specs.Prelude.{◌≡◌, ℕ, ◌+◌, ◌≤◌, Bool, true, false, ◌==◌, if◌then◌else◌, Option, unwrap_or, IsTrue, List, [], ◌∷◌, ◌++◌, ◌⊎◌, map, fold, length, Contains}
use Rattle.std.specs.List.{AllByRecursion as Each}
use Rattle.tbr_model.specs.Codes.{tab_character, zero_width_space}
use Rattle.tbr_model.specs.declared.white_space.WhiteSpace.{WhiteSpace}
use Rattle.tbr_model.specs.declared.white_space.WhiteSpace.TheVariants.{Normal, Pre, PreWrap}
use Rattle.tbr_model.specs.Run.{Entry, character, marker_entry, Item, glyph, marker, is_kept, kept_items, trailing}
use Rattle.tbr_model.specs.Layout.{joined}
use Rattle.tbr_model.specs.Markers.{names_in_items, names_in_run, marker_items, names_after}
use Rattle.tbr_model.specs.Hard.{HasMode, Preserves, IsNarrowEntry, entry_letters, is_visible, hard_lines, Parted, ShowsVisible, ShowsHardLine, ShowsPre, ShowsPreWrap, ShowsTabs, HasMain}
use Rattle.tbr_model.specs.Shown.{without_spaces, InventsNothing, ComesWithRun, ShowsInOrder, IsNotPre, ShowsOwn, next_stop}
use Rattle.tbr_wrap.specs.Wrapped.{HasBestLines, FitsBlock}

-- a text's entries
abbrev pub text_entries : {A : Type 0} → List ℕ → A → A → WhiteSpace → List (Entry A)
text_entries cs a b mode = map (λ c. character c a b mode) cs

-- whether there is something
abbrev pub is_some_list : {X : Type 0} → List X → Bool
is_some_list [] = false
is_some_list (x ∷ xs) = true

-- ---- runs

-- the run is `Normal` throughout
abbrev pub IsNormal : {A : Type 0} → List (Entry A) → Type 0
IsNormal run = Each (HasMode Normal) run

-- no character of the run is wider than a line
abbrev pub CharactersFit : {A : Type 0} → (ℕ → Option ℕ) → ℕ → List (Entry A) → Type 0
CharactersFit columns width run = Each (IsNarrowEntry columns width) run

-- no visible character of the run is wider than a line
abbrev pub IsNarrowIfVisible : {A : Type 0} → (ℕ → Option ℕ) → ℕ → Entry A → Type 0
IsNarrowIfVisible columns width (character c a b mode) = IsTrue (is_visible columns c) → unwrap_or (columns c) 0 ≤ width
IsNarrowIfVisible columns width (marker_entry name) = Unit {0}

abbrev pub VisibleFit : {A : Type 0} → (ℕ → Option ℕ) → ℕ → List (Entry A) → Type 0
VisibleFit columns width run = Each (IsNarrowIfVisible columns width) run

-- The lines of a run. Those of a `Normal` run, where no line may be wider than the block, are the texts of its best
-- layout. Those of any run hold its visible characters once and in order. Those of a preserving run are, hard line by
-- hard line, what its mode promises.
pub record IsShownBy {A : Type 0} (columns : ℕ → Option ℕ) (width : ℕ) (may_overflow : Bool)
    (run : List (Entry A)) (texts : List (List (Item A))) : Type 0 where
  pub best : may_overflow ≡ false → IsNormal run → HasBestLines columns width run texts
  pub visible : ShowsVisible columns (λ a b. a ≡ b) run texts
  pub hard : Each Preserves run → Parted (ShowsHardLine columns (λ a b. a ≡ b)) (hard_lines run) texts
  pub pre : Each (HasMode Pre) run → Parted (ShowsPre columns (λ a b. a ≡ b) width) (hard_lines run) texts
  pub prewrap : Each (HasMode PreWrap) run → Parted (ShowsPreWrap columns width) (hard_lines run) texts
  pub tabs : Each (HasMode Pre) run ⊎ Each (HasMode PreWrap) run →
      Parted (ShowsTabs columns width) (hard_lines run) texts

-- these are the last ones of all
abbrev pub AreLastOf : {X : Type 0} → List X → List X → Type 0
AreLastOf {X} xs all = (front : List X) × (front ++ xs ≡ all)

-- ---- hard lines that fit

-- The column after an entry that comes at a column: a tab goes to the next multiple of eight, and U+200B takes none.
abbrev pub column_after : {A : Type 0} → (ℕ → Option ℕ) → ℕ → Entry A → ℕ
column_after columns n (character c a b m) =
    if c == zero_width_space then n
    else if c == tab_character then next_stop n
    else n + unwrap_or (columns c) 0
column_after columns n (marker_entry name) = n

-- a hard line takes no more columns than the block has
abbrev pub LineFits : {A : Type 0} → (ℕ → Option ℕ) → ℕ → List (Entry A) → Type 0
LineFits columns width h = fold (column_after columns) 0 h ≤ width

-- an entry has the annotation as its own
abbrev pub HasOwnAnnotation : {A : Type 0} → (A → A → Type 0) → List (Entry A) → A → Type 0
HasOwnAnnotation {A} Same es x = (e : Entry A) × Contains es e × HasMain Same e x

-- a character is under the own annotation of an entry
abbrev pub IsUnderOwn : {A : Type 0} → (A → A → Type 0) → List (Entry A) → Item A → Type 0
IsUnderOwn Same es (glyph c x) = HasOwnAnnotation Same es x
IsUnderOwn Same es (marker name) = Unit {0}

-- In a run of `Pre` alone a hard line that fits isn't cut. Each visible character there is under its own annotation,
-- and any other character is under that of some entry of the hard line.
pub record ShowsFitting {A : Type 0} (columns : ℕ → Option ℕ) (Same : A → A → Type 0) (width : ℕ) (more : Bool)
    (h : List (Entry A)) (ls : List (List (Item A))) : Type 0 where
  pub uncut : LineFits columns width h → length ls ≤ 1
  pub own : LineFits columns width h → ShowsOwn columns Same h ls
  pub under : LineFits columns width h → Each (IsUnderOwn Same h) (joined ls)

-- What the end of a run leaves: its lines, those that had ended before among them, and the markers that are on none.
-- Each line is as wide as it may be. Nothing is on the lines but what came, and white space under its tags.
pub record EndsRun {A : Type 0} (columns : ℕ → Option ℕ) (width : ℕ) (may_overflow : Bool) (run : List (Entry A))
    (texts : List (List (Item A))) (names : List (List ℕ)) : Type 0 where
  pub shown : IsShownBy columns width may_overflow run texts
  pub fits : Each (FitsBlock columns width may_overflow) texts
  pub invents : InventsNothing columns (λ a b. a ≡ b) run texts
  -- each character there is U+0020 or one of the run's
  pub come : Each (ComesWithRun (λ a b. a ≡ b) run) (joined texts)
  -- visible characters and markers keep their order, whatever their modes
  pub order : ShowsInOrder columns (λ a b. a ≡ b) run texts names
  -- without `Pre` each visible character is under its own annotation
  pub own : Each IsNotPre run → ShowsOwn columns (λ a b. a ≡ b) run texts
  -- in `Pre` alone a hard line that fits is under its own annotations
  pub fitting : Each (HasMode Pre) run → Parted (ShowsFitting columns (λ a b. a ≡ b) width) (hard_lines run) texts
  -- a `Normal` run's items are on its lines or wait, whatever the width
  pub kept : IsNormal run → without_spaces (joined texts) ++ marker_items names ≡ kept_items columns run
  -- markers are on the lines or wait, once and in order
  pub markers : names_in_items (joined texts) ++ names ≡ names_in_run run
  -- those that wait come after the last visible character, in a `Normal` run after the last kept one
  pub after : AreLastOf names (names_after (is_visible columns) run)
  pub after_kept : IsNormal run → AreLastOf names (names_after (is_kept columns) run)
  pub waits : may_overflow ≡ false → IsNormal run → marker_items names ≡ trailing columns run
  -- a run without a character ends no line
  pub alone : entry_letters run ≡ [] → texts ≡ []
