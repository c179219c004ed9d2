-- A run of markers alone ends no line, and its markers wait, or are trailing.
use Rattle.tbr_model.proofs.Common.{◌≡◌, ℕ, ◌≤◌, false, Option, None, List, [], ◌∷◌, ◌++◌, fold, length, refl, ap, sym, ◌∙◌, arith, subst, append_assoc, append-nil, lt-ltb, Normal, Entry, character}
use Rattle.tbr_model.proofs.Common.{marker_entry, Item, marker, has_character, Reading, read, trailing, joined, Event, run_of, at_start, progress, waiting, lines_of, names_in_items, names_in_run}
use Rattle.tbr_model.proofs.Common.{marker_items, marker_run, Preserves, entry_letters, IsSpaces, Each}
use Rattle.tbr_model.specs.Markers.{without_last_markers}
use Rattle.tbr_model.specs.Hard.{AllHaveMode}
use Rattle.tbr_model.proofs.rule.HardLines.{start_fresh}
use Rattle.tbr_model.proofs.rule.BlankLines.{fold_blank, blank_line}
use Rattle.tbr_model.proofs.rule.Markers.{markers_at_end}

-- markers alone are in any mode
markers_preserve : {A : Type 0} (es : List (Entry A)) → entry_letters es ≡ [] → Each Preserves es
markers_preserve [] h = tt
markers_preserve (character c a b mode ∷ es) h = cc
markers_preserve (marker_entry name ∷ es) h = (tt, markers_preserve es h)

module _ {A : Type 0} (columns : ℕ → Option ℕ) (width : ℕ) where
  -- no line has ended
  pub no_line_done : (es : List (Event A)) → entry_letters (run_of es) ≡ [] → (progress columns width es).laid.done ≡ []
  no_line_done es h = (fold_blank columns width es at_start (markers_preserve (run_of es) h) (subst IsSpaces (sym h) tt) (record { done = refl; line = refl; word = refl })).done

  pub no_line_ends : (es : List (Event A)) → entry_letters (run_of es) ≡ [] → lines_of columns width es ≡ []
  no_line_ends es h = (blank_line columns width at_start es start_fresh (markers_preserve (run_of es) h) (subst IsSpaces (sym h) tt)).1

  -- all markers wait
  pub all_wait : (es : List (Event A)) → entry_letters (run_of es) ≡ [] → names_in_items (waiting columns width (progress columns width es)) ≡ names_in_run (run_of es)
  all_wait es h =
      ap (λ (ls : List (List (Item A))). names_in_items (joined ls) ++ names_in_items (waiting columns width (progress columns width es))) (sym (no_line_ends es h))
      ∙ markers_at_end columns width es

-- ---- runs of markers by name

pub normal_markers : (A : Type 0) (names : List (List ℕ)) → AllHaveMode {A = A} Normal (marker_run names)
normal_markers A [] = tt
normal_markers A (name ∷ names) = (tt, normal_markers A names)

pub names_of_markers : (A : Type 0) (names : List (List ℕ)) → names_in_run {A = A} (marker_run names) ≡ names
names_of_markers A [] = refl
names_of_markers A (name ∷ names) = ap (λ ns. name ∷ ns) (names_of_markers A names)

none_without : (A : Type 0) (names : List (List ℕ)) (n : ℕ) → length names ≤ n → without_last_markers {A = A} n (marker_run names) ≡ []
none_without A [] n h = refl
none_without A (name ∷ names) n h = grind (arith, lt-ltb, names_of_markers, none_without A names n (omega arith))

pub all_taken_out : (A : Type 0) (names : List (List ℕ)) → without_last_markers {A = A} (length names) (marker_run names) ≡ []
all_taken_out A names = none_without A names (length names) (omega arith)

-- a reading that has no word yet
abbrev reads : {A : Type 0} → List (Item A) → Reading A
reads is = record { words = []; gap = None; items = is }

read_markers : {A : Type 0} (columns : ℕ → Option ℕ) (names : List (List ℕ)) (is : List (Item A)) →
    fold (read columns) (reads is) (marker_run names) ≡ reads (is ++ marker_items names)
read_markers {A} columns [] is = ap (reads {A = A}) (sym (append-nil is))
read_markers {A} columns (name ∷ names) is =
    read_markers columns names (is ++ marker name ∷ []) ∙ ap (reads {A = A}) (append_assoc is (marker name ∷ []) (marker_items names))

no_character : (A : Type 0) (names : List (List ℕ)) → has_character {A = A} (marker_items names) ≡ false
no_character A [] = refl
no_character A (name ∷ names) = no_character A names

pub trailing_markers : (A : Type 0) (columns : ℕ → Option ℕ) (names : List (List ℕ)) → trailing {A = A} columns (marker_run names) ≡ marker_items names
trailing_markers A columns names = rw (read_markers {A = A} columns names [], no_character A names) refl

pub ruleset line_laws = (no_line_done, no_line_ends, all_wait)

pub ruleset name_laws = (normal_markers, trailing_markers, names_of_markers, all_taken_out)
