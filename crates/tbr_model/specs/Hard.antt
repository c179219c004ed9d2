-- Hard lines of a preserving run, and what a block shows of each.
use Rattle.std.specs.Prelude.{◌≡◌, ◌≢◌, ℕ, suc, ◌+◌, ◌-◌, ◌%◌, ◌<◌, ◌≤◌, ◌⊎◌, Bool, true, false, not, ◌&&◌, ◌==◌, if◌then◌else◌, Option, Some, unwrap_or, IsTrue, List, [], ◌∷◌, ◌++◌, map}
use Rattle.std.specs.Prelude.{flat_map, filter, length, take, drop, replicate}
use Rattle.std.specs.Char.{is_whitespace}
use Rattle.std.specs.List.{AllZip, AllByRecursion as Each}
use Rattle.tbr_model.specs.Codes.{tab_character, newline_character, space_character, last_printable}
use Rattle.tbr_model.specs.declared.white_space.WhiteSpace.{WhiteSpace}
use Rattle.tbr_model.specs.declared.white_space.WhiteSpace.TheVariants.{Normal}
use Rattle.tbr_model.specs.Run.{Entry, character, marker_entry, Item, glyph, marker, is_kept}
use Rattle.tbr_model.specs.Layout.{joined}

-- a character has the mode
abbrev pub HasMode : {A : Type 0} → WhiteSpace → Entry A → Type 0
HasMode mode (character c a b m) = m ≡ mode
HasMode mode (marker_entry name) = Unit {0}

-- all characters of a run have the mode
abbrev pub AllHaveMode : {A : Type 0} → WhiteSpace → List (Entry A) → Type 0
AllHaveMode mode run = Each (HasMode mode) run

-- a character has a preserving mode
abbrev pub Preserves : {A : Type 0} → Entry A → Type 0
Preserves (character c a b m) = m ≢ Normal
Preserves (marker_entry name) = Unit {0}

-- a character is no wider than a line
abbrev pub IsNarrowEntry : {A : Type 0} → (ℕ → Option ℕ) → ℕ → Entry A → Type 0
IsNarrowEntry columns width (character c a b mode) = unwrap_or (columns c) 0 ≤ width
IsNarrowEntry columns width (marker_entry name) = Unit {0}

-- ---- hard lines

abbrev pub is_newline : {A : Type 0} → Entry A → Bool
is_newline (character c a b m) = c == newline_character
is_newline (marker_entry name) = false

-- with something more at the front of the first part
abbrev pub onto_first : {X : Type 0} → X → List (List X) → List (List X)
onto_first x [] = (x ∷ []) ∷ []
onto_first x (xs ∷ xss) = (x ∷ xs) ∷ xss

-- the entries of a preserving run between its newlines
abbrev pub hard_lines : {A : Type 0} → List (Entry A) → List (List (Entry A))
hard_lines [] = [] ∷ []
hard_lines (e ∷ es) = if is_newline e then [] ∷ hard_lines es else onto_first e (hard_lines es)

-- The lines are groups, one for each part, and each part has its relation to its group. The relation is given whether
-- another part follows.
abbrev pub Parted : {X Y : Type 0} → (Bool → X → List Y → Type 0) → List X → List Y → Type 0
Parted R [] ys = ys ≡ []
Parted R (x ∷ []) ys = R false x ys
Parted {X} {Y} R (x ∷ z ∷ xs) ys =
    (front back : List Y) × (ys ≡ front ++ back) × R true x front × Parted R (z ∷ xs) back

-- ---- characters

-- the characters of items, with their annotations
abbrev pub glyphs_of : {A : Type 0} → List (Item A) → List (ℕ × A)
glyphs_of [] = []
glyphs_of (glyph c a ∷ is) = (c, a) ∷ glyphs_of is
glyphs_of (marker name ∷ is) = glyphs_of is

abbrev pub letters_of : {A : Type 0} → List (Item A) → List ℕ
letters_of is = map (λ g. g.0) (glyphs_of is)

abbrev pub entry_letters : {A : Type 0} → List (Entry A) → List ℕ
entry_letters [] = []
entry_letters (character c a b m ∷ es) = c ∷ entry_letters es
entry_letters (marker_entry name ∷ es) = entry_letters es

-- A character is visible if it is kept and no white space.
abbrev pub is_visible : (ℕ → Option ℕ) → ℕ → Bool
is_visible columns c = is_kept columns c && not (is_whitespace c)

abbrev pub visible_glyphs : {A : Type 0} → (ℕ → Option ℕ) → List (Item A) → List (ℕ × A)
visible_glyphs columns is = filter (λ g. is_visible columns g.0) (glyphs_of is)

abbrev pub is_visible_entry : {A : Type 0} → (ℕ → Option ℕ) → Entry A → Bool
is_visible_entry columns (character c a b m) = is_visible columns c
is_visible_entry columns (marker_entry name) = false

abbrev pub visible_entries : {A : Type 0} → (ℕ → Option ℕ) → List (Entry A) → List (Entry A)
visible_entries columns es = filter (is_visible_entry columns) es

-- a character is under its annotation, or under the one that it has where its hard line goes on
abbrev pub IsShown : {A : Type 0} → (A → A → Type 0) → ℕ × A → Entry A → Type 0
IsShown Same g (character c a b m) = (g.0 ≡ c) × (Same g.1 a ⊎ Same g.1 b)
IsShown Same g (marker_entry name) = ⊥

-- The visible characters of a run are in lines once, in order, each under an annotation of its call.
abbrev pub ShowsVisible : {A : Type 0} →
    (ℕ → Option ℕ) → (A → A → Type 0) → List (Entry A) → List (List (Item A)) → Type 0
ShowsVisible columns Same run ls =
    AllZip (IsShown Same) (visible_glyphs columns (joined ls)) (visible_entries columns run)

-- ---- printable hard lines

-- printable ASCII, in one column
abbrev pub IsPrintable : (ℕ → Option ℕ) → ℕ → Type 0
IsPrintable columns c = (space_character ≤ c) × (c ≤ last_printable) × (columns c ≡ Some 1)

abbrev pub IsPrintableEntry : {A : Type 0} → (ℕ → Option ℕ) → Entry A → Type 0
IsPrintableEntry columns (character c a b m) = IsPrintable columns c
IsPrintableEntry columns (marker_entry name) = ⊥

-- a hard line of printable characters
abbrev pub IsPrintableLine : {A : Type 0} → (ℕ → Option ℕ) → List (Entry A) → Type 0
IsPrintableLine columns h = Each (IsPrintableEntry columns) h

abbrev pub IsTabbedEntry : {A : Type 0} → (ℕ → Option ℕ) → Entry A → Type 0
IsTabbedEntry columns (character c a b m) = (c ≡ tab_character) ⊎ IsPrintable columns c
IsTabbedEntry columns (marker_entry name) = ⊥

-- a hard line of printable characters and tabs
abbrev pub IsTabbedLine : {A : Type 0} → (ℕ → Option ℕ) → List (Entry A) → Type 0
IsTabbedLine columns h = Each (IsTabbedEntry columns) h

-- a text of spaces alone
abbrev pub IsSpaces : List ℕ → Type 0
IsSpaces cs = Each (λ c. c ≡ space_character) cs

-- the first character is no space
abbrev pub BeginsWithNonBlank : List ℕ → Type 0
BeginsWithNonBlank [] = ⊥
BeginsWithNonBlank (c ∷ cs) = c ≢ space_character

-- the last character is neither a space nor a tab
abbrev pub EndsWithNonBlank : List ℕ → Type 0
EndsWithNonBlank [] = ⊥
EndsWithNonBlank (c ∷ []) = (c ≢ space_character) × (c ≢ tab_character)
EndsWithNonBlank (c ∷ d ∷ cs) = EndsWithNonBlank (d ∷ cs)

-- A text cut after every `width` characters: the last part has at least one, and at most `width`.
abbrev pub IsCutEvery : ℕ → List ℕ → List (List ℕ) → Type 0
IsCutEvery width cs [] = ⊥
IsCutEvery width cs (l ∷ []) = (l ≡ cs) × (0 < length l) × (length l ≤ width)
IsCutEvery width cs (l ∷ m ∷ ls) = (l ≡ take width cs) × (length l ≡ width) × IsCutEvery width (drop width cs) (m ∷ ls)

-- a text without the spaces at its end
abbrev pub without_last_spaces : List ℕ → List ℕ
without_last_spaces [] = []
without_last_spaces (c ∷ cs) = front c (without_last_spaces cs)
  where
    front : ℕ → List ℕ → List ℕ
    front c [] = if c == space_character then [] else c ∷ []
    front c (d ∷ ds) = c ∷ d ∷ ds

-- whether the text goes on with a non-blank
abbrev pub begins_stretch : List ℕ → Bool
begins_stretch [] = false
begins_stretch (c ∷ cs) = not (c == space_character)

-- the stretches of non-blanks of a text
abbrev pub stretches : List ℕ → List (List ℕ)
stretches [] = []
stretches (c ∷ cs) =
    if c == space_character then stretches cs
    else if begins_stretch cs then onto_first c (stretches cs)
    else (c ∷ []) ∷ stretches cs

-- The parts are the stretches, in order. Only a stretch that is wider than a line may be cut.
abbrev pub IsCutOf : ℕ → List (List ℕ) → List (List ℕ) → Type 0
IsCutOf width [] ps = ps ≡ []
IsCutOf width (s ∷ ss) ps =
    (front back : List (List ℕ)) × (ps ≡ front ++ back) × (joined front ≡ s) × (length s ≤ width → front ≡ s ∷ [])
    × IsCutOf width ss back

-- a text up to its first space
abbrev pub first_stretch : List ℕ → List ℕ
first_stretch [] = []
first_stretch (c ∷ cs) = if c == space_character then [] else c ∷ first_stretch cs

-- How a line begins after spaces that are dropped, and after the line before, which is empty where the hard line
-- begins. It begins with the hard line, or with a stretch that doesn't fit after that line with the spaces. If no
-- spaces are dropped, it goes on with a stretch that filled the line before alone.
abbrev pub BeginsAfter : ℕ → List ℕ → ℕ → List ℕ → Type 0
BeginsAfter width before gap l =
    ((before ≡ []) × (gap ≡ 0))
    ⊎ (BeginsWithNonBlank l × (width < length before + (gap + length (first_stretch l)))
    × (gap ≡ 0 → (length before ≡ width) × (first_stretch before ≡ before)))

-- A text is these lines, after the line before: each ends with a non-blank and fits, and spaces are dropped before
-- lines that begin so, and at the end.
abbrev pub IsWrapped : ℕ → List ℕ → List ℕ → List (List ℕ) → Type 0
IsWrapped width before text [] = IsSpaces text
IsWrapped width before text (l ∷ ls) =
    (gap : ℕ) × (rest : List ℕ) × (text ≡ replicate gap space_character ++ (l ++ rest))
    × EndsWithNonBlank l × (length l ≤ width) × BeginsAfter width before gap l × IsWrapped width l rest ls

-- from a column on, each tab as spaces up to the next multiple of eight
abbrev pub tabs_filled : ℕ → List ℕ → List ℕ
tabs_filled n [] = []
tabs_filled n (c ∷ cs) =
    if c == tab_character
    then replicate (8 - n % 8) space_character ++ tabs_filled (n + (8 - n % 8)) cs
    else c ∷ tabs_filled (suc n) cs

-- ---- what is shown of a hard line

-- what spaces alone leave: an empty line before a newline, and no line at the end of a run
abbrev pub blank_lines : {A : Type 0} → Bool → List (List (Item A))
blank_lines more = if more then [] ∷ [] else []

-- In any preserving run a newline ends a line, even an empty one, and a hard line's visible characters are on lines
-- of its own.
pub record ShowsHardLine {A : Type 0} (columns : ℕ → Option ℕ) (Same : A → A → Type 0) (more : Bool)
    (h : List (Entry A)) (ls : List (List (Item A))) : Type 0 where
  pub line : IsTrue more → 0 < length ls
  pub visible : ShowsVisible columns Same h ls
  pub blank : IsSpaces (entry_letters h) → ls ≡ blank_lines more

-- characters that are no spaces are under annotations that their entries have
abbrev pub StandUnder : {A : Type 0} → (Entry A → A → Type 0) → List (ℕ × A) → List (Entry A) → Type 0
StandUnder Has gs es = AllZip (λ g e. g.0 ≢ space_character → Has e g.1) gs es

abbrev pub HasMain : {A : Type 0} → (A → A → Type 0) → Entry A → A → Type 0
HasMain Same (character c a b m) x = Same x a
HasMain Same (marker_entry name) x = ⊥

abbrev pub HasContinuation : {A : Type 0} → (A → A → Type 0) → Entry A → A → Type 0
HasContinuation Same (character c a b m) x = Same x b
HasContinuation Same (marker_entry name) x = ⊥

-- In a run of `Pre` alone.
pub record ShowsPre {A : Type 0} (columns : ℕ → Option ℕ) (Same : A → A → Type 0) (width : ℕ) (more : Bool)
    (h : List (Entry A)) (ls : List (List (Item A))) : Type 0 where
  -- its kept characters are there once, in order
  pub kept : filter (is_kept columns) (letters_of (joined ls)) ≡ filter (is_kept columns) (entry_letters h)
  -- it is one line, where it fits
  pub fits : IsPrintableLine columns h → ¬ (IsSpaces (entry_letters h)) → length h ≤ width →
      map letters_of ls ≡ entry_letters h ∷ []
  -- if it begins with a non-blank, it is cut after every `width` characters
  pub cut : IsPrintableLine columns h → BeginsWithNonBlank (entry_letters h) →
      IsCutEvery width (entry_letters h) (map letters_of ls)
  -- spaces alone leave an empty line before a newline, and no line at the end of the run
  pub blank : IsSpaces (entry_letters h) → ls ≡ blank_lines more
  -- its first line's characters are under their annotations, and those after it under the continuation annotations
  pub main : IsPrintableLine columns h → BeginsWithNonBlank (entry_letters h) →
      StandUnder (HasMain Same) (take width (glyphs_of (joined ls))) (take width h)
  pub continuation : IsPrintableLine columns h → BeginsWithNonBlank (entry_letters h) →
      StandUnder (HasContinuation Same) (drop width (glyphs_of (joined ls))) (drop width h)

-- In a run of `PreWrap` alone.
pub record ShowsPreWrap {A : Type 0} (columns : ℕ → Option ℕ) (width : ℕ) (more : Bool)
    (h : List (Entry A)) (ls : List (List (Item A))) : Type 0 where
  -- it is one line, where it fits without the spaces at its end
  pub fits : IsPrintableLine columns h → ¬ (IsSpaces (entry_letters h)) →
      length (without_last_spaces (entry_letters h)) ≤ width →
      map letters_of ls ≡ without_last_spaces (entry_letters h) ∷ []
  -- its stretches are on its lines, and only those that are wider than a line are cut
  pub whole : IsPrintableLine columns h →
      IsCutOf width (stretches (entry_letters h)) (flat_map stretches (map letters_of ls))
  -- spaces are dropped, and a line ends, only where the next stretch doesn't fit
  pub wrapped : IsPrintableLine columns h → ¬ (IsSpaces (entry_letters h)) →
      IsWrapped width [] (entry_letters h) (map letters_of ls)
  -- spaces alone leave an empty line before a newline, and no line at the end of the run
  pub blank : IsSpaces (entry_letters h) → ls ≡ blank_lines more

-- In a run of one preserving mode.
pub record ShowsTabs {A : Type 0} (columns : ℕ → Option ℕ) (width : ℕ) (more : Bool)
    (h : List (Entry A)) (ls : List (List (Item A))) : Type 0 where
  -- where it fits, a tab is spaces up to the next multiple of eight
  pub tabs : IsTabbedLine columns h → EndsWithNonBlank (entry_letters h) →
      length (tabs_filled 0 (entry_letters h)) ≤ width →
      map letters_of ls ≡ tabs_filled 0 (entry_letters h) ∷ []
