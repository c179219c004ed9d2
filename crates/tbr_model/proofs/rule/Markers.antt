-- How a block goes on keeps the markers, in order.
use Rattle.tbr_model.proofs.Common.{◌≡◌, ℕ, false, Option, List, [], ◌∷◌, ◌++◌, map, fold, refl, ap, sym, ◌∙◌, append_assoc, append-nil, arith, AllZip, Entry, character, marker_entry, Item, glyph}
use Rattle.tbr_model.proofs.Common.{marker, has_character, joined, Event, entry, run_of, Progress, at_start, enter, step, progress, waiting, lines_of, names_in_items, names_in_run, marker_run}
use Rattle.tbr_model.proofs.Common.{marker_items}
use Rattle.tbr_model.proofs.words.Items.{has_character-append}
use Rattle.tbr_model.proofs.rule.Content.{LooksAtKept, AnyEntry, AnyMode, StandsFor, by_entry, found_under_way, found_at_end}
use Rattle.tbr_model.proofs.rule.Walk.{any_entries}
use Rattle.tbr_model.proofs.rule.HardLines.{no_character_after_end, flush_flushes}

-- ---- items and entries

pub names_in_items-append : {A : Type 0} (is js : List (Item A)) → names_in_items (is ++ js) ≡ names_in_items is ++ names_in_items js
names_in_items-append [] js = refl
names_in_items-append (glyph c a ∷ is) js = names_in_items-append is js
names_in_items-append (marker name ∷ is) js = ap (λ ns. name ∷ ns) (names_in_items-append is js)

pub names_in_run-append : {A : Type 0} (es fs : List (Entry A)) → names_in_run (es ++ fs) ≡ names_in_run es ++ names_in_run fs
names_in_run-append [] fs = refl
names_in_run-append (character c a b mode ∷ es) fs = names_in_run-append es fs
names_in_run-append (marker_entry name ∷ es) fs = ap (λ ns. name ∷ ns) (names_in_run-append es fs)

-- items without a character are markers alone
pub marker_items_alone : {A : Type 0} (is : List (Item A)) → has_character is ≡ false → is ≡ marker_items (names_in_items is)
marker_items_alone [] h = refl
marker_items_alone (glyph c a ∷ is) h = cc
marker_items_alone (marker name ∷ is) h = ap (λ js. marker name ∷ js) (marker_items_alone is h)

looks_at_markers : {A : Type 0} (columns : ℕ → Option ℕ) → LooksAtKept {A = A} columns AnyEntry AnyMode names_in_items
looks_at_markers columns = record { modes = λ c a b m h. tt; append = names_in_items-append; nothing = refl; lost = λ c a h. refl; white = λ m c a h. refl }

-- items that stand for entries have their markers
names_alike : {A : Type 0} (is : List (Item A)) (es : List (Entry A)) → AllZip (StandsFor AnyMode) is es → names_in_items is ≡ names_in_run es
names_alike = by_entry AnyMode (λ is es. names_in_items is ≡ names_in_run es) refl (λ c x a b m is es either rest. rest) (λ name is es rest. ap (λ ns. name ∷ ns) rest)

module _ {A : Type 0} (columns : ℕ → Option ℕ) (width : ℕ) where
  -- ---- a run

  -- The markers of a run are on its lines and in its word once, in order.
  pub markers_run : (es : List (Event A)) → let p = progress columns width es in names_in_items (joined p.laid.done) ++ (names_in_items p.laid.line ++ names_in_items p.word) ≡ names_in_run (run_of es)
  markers_run es =
      let p : Progress A = progress columns width es in
      let g = found_under_way (looks_at_markers columns) width es (any_entries (run_of es)) in
      sym (append_assoc (names_in_items (joined p.laid.done)) (names_in_items p.laid.line) (names_in_items p.word))
      ∙ ap (λ ns. ns ++ names_in_items p.word) (sym (names_in_items-append (joined p.laid.done) p.laid.line)) ∙ g.are ∙ names_alike g.items (run_of es) g.stand

  -- at its end they are on its lines, or wait
  pub markers_at_end : (es : List (Event A)) → names_in_items (joined (lines_of columns width es)) ++ names_in_items (waiting columns width (progress columns width es)) ≡ names_in_run (run_of es)
  markers_at_end es =
      let g = found_at_end (looks_at_markers columns) width es (any_entries (run_of es)) in
      sym (names_in_items-append (joined (lines_of columns width es)) (waiting columns width (progress columns width es))) ∙ g.are ∙ names_alike g.items (run_of es) g.stand

  -- no character waits
  pub waiting_none : (p : Progress A) → has_character (waiting columns width p) ≡ false
  waiting_none p = grind (arith, has_character-append, no_character_after_end, flush_flushes)

  -- ---- a run of markers alone

  fold_markers : (names : List (List ℕ)) (p : Progress A) → fold (step columns width) p (map (λ n. entry (marker_entry n)) names) ≡ record p { word = p.word ++ marker_items names }
  fold_markers [] p = ap (λ (is : List (Item A)). let q : Progress A = record p { word = is } in q) (sym (append-nil p.word))
  fold_markers (name ∷ names) p = grind (arith, append_assoc, fold_markers names (enter columns width p (marker_entry name)))

  -- markers alone are the word
  pub markers_lead : (names : List (List ℕ)) → progress {A = A} columns width (map (λ n. entry (marker_entry n)) names) ≡ record at_start { word = marker_items names }
  markers_lead names = fold_markers names at_start

pub run_of_markers : {A : Type 0} (names : List (List ℕ)) → run_of {A = A} (map (λ n. entry (marker_entry n)) names) ≡ marker_run names
run_of_markers [] = refl
run_of_markers {A} (name ∷ names) = ap (λ (es : List (Entry A)). marker_entry name ∷ es) (run_of_markers names)
