-- Each character on the lines of a run is a space or one of the run's.
use Rattle.tbr_model.proofs.Common.{ℕ, inl, inr, Option, List, [], ◌∷◌, refl, arith, ◌≡◌, ◌<◌, zero, suc, length, get_or, Contains, Each, All-contains_itself, recursion_from_All, slice_index_or}
use Rattle.tbr_model.proofs.Common.{WhiteSpace, Entry, character, marker_entry, joined, Event, run_of, lines_of, entry_letters, HasAnnotation}
use Rattle.std.proofs.lemmas.List.Elements.{Contains-append_right}
use Rattle.tbr_model.specs.Shown.{ComesWithRun}
use Rattle.tbr_model.proofs.lines.EachItem.{Brings, each_on_lines}

letter_in : {A : Type 0} (es : List (Entry A)) (c : ℕ) (a b : A) (m : WhiteSpace) (k : ℕ) → k < length es → get_or es k (character c a b m) ≡ character c a b m → Contains (entry_letters es) c
letter_in [] c a b m k h e = absurd (omega arith)
letter_in (character d x y n ∷ es) c a b m zero h e = let same : d ≡ c = cc in (0, omega arith, same)
letter_in (marker_entry name ∷ es) c a b m zero h e = cc
letter_in (character d x y n ∷ es) c a b m (suc k) h e = Contains-append_right (d ∷ []) (entry_letters es) c (letter_in es c a b m k (omega arith) e)
letter_in (marker_entry name ∷ es) c a b m (suc k) h e = letter_in es c a b m k (omega arith) e

module _ {A : Type 0} (columns : ℕ → Option ℕ) (Same : A → A → Type 0) (same : (x : A) → Same x x) (run : List (Entry A)) where
  brings : (e : Entry A) → Contains run e → Brings columns (ComesWithRun Same run) (HasAnnotation Same run) e
  brings (character c a b m) h = ((character c a b m, h, inl (same a)), (character c a b m, h, inr (same b)), λ x has may. (has, inr (letter_in run c a b m h.0 h.1 h.2)))
  brings (marker_entry name) h = h

-- In every mode the characters on the lines are spaces and characters of the run.
pub come_with_run : {A : Type 0} (columns : ℕ → Option ℕ) (width : ℕ) (Same : A → A → Type 0) → ((x : A) → Same x x) → (es : List (Event A)) →
    Each (ComesWithRun Same (run_of es)) (joined (lines_of columns width es))
come_with_run columns width Same same es =
    let run = run_of es in
    each_on_lines columns (ComesWithRun Same run) (HasAnnotation Same run) (λ a h. (h, inl refl)) width es
    (recursion_from_All (Brings columns (ComesWithRun Same run) (HasAnnotation Same run)) run
    (λ k d within. brings columns Same same run (slice_index_or run k d) (All-contains_itself run k d within)))
