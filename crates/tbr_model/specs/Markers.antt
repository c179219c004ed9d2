-- The markers of a run and of lines, by name.
use Rattle.std.specs.Prelude.{ℕ, ◌-◌, nat_lt, Bool, if◌then◌else◌, List, [], ◌∷◌, ◌++◌, fold, map, length, drop}
use Rattle.tbr_model.specs.Run.{Entry, character, marker_entry, Item, glyph, marker}

-- those among items
abbrev pub names_in_items : {A : Type 0} → List (Item A) → List (List ℕ)
names_in_items [] = []
names_in_items (glyph c a ∷ is) = names_in_items is
names_in_items (marker name ∷ is) = name ∷ names_in_items is

-- those of a run
abbrev pub names_in_run : {A : Type 0} → List (Entry A) → List (List ℕ)
names_in_run [] = []
names_in_run (character c a b mode ∷ es) = names_in_run es
names_in_run (marker_entry name ∷ es) = name ∷ names_in_run es

-- a run of markers alone
abbrev pub marker_run : {A : Type 0} → List (List ℕ) → List (Entry A)
marker_run names = map marker_entry names

-- items that are markers alone
abbrev pub marker_items : {A : Type 0} → List (List ℕ) → List (Item A)
marker_items names = map marker names

-- the last n
abbrev pub last : {X : Type 0} → ℕ → List X → List X
last n xs = drop (length xs - n) xs

-- a run without its last n markers
abbrev pub without_last_markers : {A : Type 0} → ℕ → List (Entry A) → List (Entry A)
without_last_markers n [] = []
without_last_markers n (character c a b mode ∷ es) = character c a b mode ∷ without_last_markers n es
without_last_markers n (marker_entry name ∷ es) =
    if nat_lt (length (names_in_run es)) n
    then without_last_markers n es
    else marker_entry name ∷ without_last_markers n es

-- after markers: a character that passes the test leaves none, and a marker is one more
abbrev pub marked_after : {A : Type 0} → (ℕ → Bool) → List (List ℕ) → Entry A → List (List ℕ)
marked_after test names (character c a b mode) = if test c then [] else names
marked_after test names (marker_entry name) = names ++ name ∷ []

-- the markers of a run after its last character that passes the test
abbrev pub names_after : {A : Type 0} → (ℕ → Bool) → List (Entry A) → List (List ℕ)
names_after test run = fold (marked_after test) [] run
