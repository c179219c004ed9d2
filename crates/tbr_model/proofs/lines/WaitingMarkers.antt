-- The markers that wait where a run ends come after its last visible character.
use Rattle.tbr_model.proofs.Common.{◌≡◌, ℕ, Bool, false, not, if◌then◌else◌, Option, List, [], ◌∷◌, ◌++◌, fold, refl, ap, sym, ◌∙◌, append_assoc, append-nil, inl, inr, AllZip, Each, is_whitespace}
use Rattle.tbr_model.proofs.Common.{and_left, cases_Bool, fold-append, WhiteSpace, Normal, Entry, Item, glyph, marker, has_character, is_kept, joined, Event, run_of, progress, waiting, lines_of}
use Rattle.tbr_model.proofs.Common.{names_in_items, HasMode, is_visible}
use Rattle.tbr_model.specs.Markers.{marked_after, names_after}
use Rattle.tbr_model.proofs.rule.Content.{LooksAtKept, AnyEntry, AnyMode, StandsFor, by_entry, found_at_end, passing, looks_at_passing}
use Rattle.tbr_model.proofs.rule.Walk.{any_entries}
use Rattle.tbr_model.proofs.rule.VisibleCharacters.{white_not_visible}
use Rattle.tbr_model.proofs.rule.Markers.{waiting_none}

-- ---- tests

looks_at_visible : {A : Type 0} (columns : ℕ → Option ℕ) → LooksAtKept {A = A} columns AnyEntry AnyMode (passing (is_visible columns))
looks_at_visible columns =
    looks_at_passing columns AnyEntry AnyMode (is_visible columns) (λ c a b m h. tt) (λ c h. and_left (is_kept columns c) (not (is_whitespace c)) h) (λ m c h. white_not_visible columns c h)

abbrev pub IsNormalMode : WhiteSpace → Type 0
IsNormalMode mode = mode ≡ Normal

pub looks_at_kept : {A : Type 0} (columns : ℕ → Option ℕ) → LooksAtKept {A = A} columns (HasMode Normal) IsNormalMode (passing (is_kept columns))
looks_at_kept columns = looks_at_passing columns (HasMode Normal) IsNormalMode (is_kept columns) (λ c a b m h. h) (λ c h. h) (λ m c h. cc)

-- ---- markers after the last character that passes

module _ {A : Type 0} (test : ℕ → Bool) where
  abbrev item_after : List (List ℕ) → Item A → List (List ℕ)
  item_after names (glyph c a) = if test c then [] else names
  item_after names (marker name) = names ++ name ∷ []

  -- they are the same where items stand for entries
  after_alike : (Modes : WhiteSpace → Type 0) (is : List (Item A)) (es : List (Entry A)) →
      AllZip (StandsFor Modes) is es → (names : List (List ℕ)) →
      fold item_after names is ≡ fold (marked_after test) names es
  after_alike Modes =
      by_entry Modes (λ is es. (names : List (List ℕ)) → fold item_after names is ≡ fold (marked_after test) names es) (λ names. refl)
      (λ c x a b m is es either rest names. rest (if test c then [] else names)) (λ name is es rest names. rest (names ++ name ∷ []))

  -- what doesn't pass doesn't count
  after_passing : (names : List (List ℕ)) (is : List (Item A)) → fold item_after names (passing test is) ≡ fold item_after names is
  after_passing names [] = refl
  after_passing names (marker name ∷ is) = after_passing (names ++ name ∷ []) is
  after_passing names (glyph c a ∷ is) =
      elim (cases_Bool (test c)) [ inl e ↦ rw e (ap (λ (b : Bool). fold item_after (if b then [] else names) (passing test is)) e ∙ after_passing [] is) | inr e ↦ rw e (after_passing names is) ]

  -- markers alone are all after
  after_markers : (names : List (List ℕ)) (is : List (Item A)) → has_character is ≡ false → fold item_after names is ≡ names ++ names_in_items is
  after_markers names [] h = sym (append-nil names)
  after_markers names (glyph c a ∷ is) h = cc
  after_markers names (marker name ∷ is) h = after_markers (names ++ name ∷ []) is h ∙ append_assoc names (name ∷ []) (names_in_items is)

  waits_after : (columns : ℕ → Option ℕ) (Comes : Entry A → Type 0) (Modes : WhiteSpace → Type 0) →
      LooksAtKept columns Comes Modes (passing test) → (width : ℕ) (es : List (Event A)) → Each Comes (run_of es) →
      (front : List (List ℕ)) × (front ++ names_in_items (waiting columns width (progress columns width es)) ≡ names_after test (run_of es))
  waits_after columns Comes Modes looks width es comes =
      let left : List (Item A) = waiting columns width (progress columns width es) in
      let lines : List (Item A) = joined (lines_of columns width es) in
      let g = found_at_end looks width es comes in (
        fold item_after [] lines,
        sym (after_markers (fold item_after [] lines) left (waiting_none columns width (progress columns width es)))
            ∙ sym (fold-append item_after [] lines left)
            ∙ sym (after_passing [] (lines ++ left))
            ∙ ap (fold item_after []) g.are
            ∙ after_passing [] g.items
            ∙ after_alike Modes g.items (run_of es) g.stand [],
      )

-- those that wait come after the last visible character
pub waits_after_visible : {A : Type 0} (columns : ℕ → Option ℕ) (width : ℕ) (es : List (Event A)) →
    (front : List (List ℕ)) × (front ++ names_in_items (waiting columns width (progress columns width es)) ≡ names_after (is_visible columns) (run_of es))
waits_after_visible columns width es = waits_after (is_visible columns) columns AnyEntry AnyMode (looks_at_visible columns) width es (any_entries (run_of es))

-- and in a run of `Normal` alone after the last kept one
pub waits_after_kept : {A : Type 0} (columns : ℕ → Option ℕ) (width : ℕ) (es : List (Event A)) → Each (HasMode Normal) (run_of es) →
    (front : List (List ℕ)) × (front ++ names_in_items (waiting columns width (progress columns width es)) ≡ names_after (is_kept columns) (run_of es))
waits_after_kept columns width es modes = waits_after (is_kept columns) columns (HasMode Normal) IsNormalMode (looks_at_kept columns) width es modes
