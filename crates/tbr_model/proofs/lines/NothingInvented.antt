-- What is on the lines of a run comes from it.
use Rattle.tbr_model.proofs.Common.{ℕ, inl, inr, ◌==◌, not, Option, List, refl, arith, Contains, slice_index_or, is_whitespace, and_parts, cases_Bool, All-contains_itself, recursion_from_All}
use Rattle.tbr_model.proofs.Common.{WhiteSpace, Entry, character, marker_entry, glyph, Event, run_of, lines_of, HasAnnotation}
use Rattle.tbr_model.specs.Shown.{ComesFrom, InventsNothing}
use Rattle.tbr_model.proofs.rule.Walk.{MayJoin}
use Rattle.tbr_model.proofs.lines.EachItem.{Brings, each_on_lines}

module _ {A : Type 0} (columns : ℕ → Option ℕ) (Same : A → A → Type 0) (same : (x : A) → Same x x) (run : List (Entry A)) where
  joins_from : (c : ℕ) (mode : WhiteSpace) (x : A) → HasAnnotation Same run x → MayJoin columns mode c → ComesFrom columns Same run (glyph c x)
  joins_from c mode x h (inl kept) = elim (cases_Bool (is_whitespace c)) [ inl e ↦ inr (e, h) | inr e ↦ inl (rw (kept, e) refl) ]
  joins_from c mode x h (inr blank) = inr ((and_parts (is_whitespace c) (not (c == 160)) blank.0).0, h)

  brings : (e : Entry A) → Contains run e → Brings columns (ComesFrom columns Same run) (HasAnnotation Same run) e
  brings (character c a b m) h = grind (arith, joins_from)
  brings (marker_entry name) h = h

-- In every mode nothing is on the lines but visible characters, white space under the run's annotations, and its
-- markers.
pub nothing_invented : {A : Type 0} (columns : ℕ → Option ℕ) (width : ℕ) (Same : A → A → Type 0) → ((x : A) → Same x x) → (es : List (Event A)) →
    InventsNothing columns Same (run_of es) (lines_of columns width es)
nothing_invented columns width Same same es =
    let run = run_of es in
    each_on_lines columns (ComesFrom columns Same run) (HasAnnotation Same run) (λ a h. inr (refl, h)) width es
    (recursion_from_All (Brings columns (ComesFrom columns Same run) (HasAnnotation Same run)) run
    (λ k d within. brings columns Same same run (slice_index_or run k d) (All-contains_itself run k d within)))
