-- A block shows the visible characters of its run once, in order.
use Rattle.tbr_model.proofs.Common.{◌≡◌, ℕ, ◌⊎◌, inl, inr, true, false, not, Option, List, [], ◌∷◌, ◌++◌, filter, fold, refl, ap, ◌∙◌, arith, length-append, AllZip, Each, is_whitespace, and_left}
use Rattle.tbr_model.proofs.Common.{and_right, not_from_true, cases_Bool, filter-append, WhiteSpace, Pre, Entry, character, Item, glyph, marker, has_character, is_kept, Event, run_of, Progress}
use Rattle.tbr_model.proofs.Common.{at_start, flush_word, newline, step, finished, lines_of, glyphs_of, is_visible, visible_entries, IsShown, ShowsVisible, Preserves, hard_lines, Parted}
use Rattle.tbr_model.proofs.Common.{ShowsHardLine}
use Rattle.tbr_model.specs.Hard.{visible_glyphs}
use Rattle.tbr_model.proofs.rule.HardLineStart.{BeginsHardLine}
use Rattle.tbr_model.proofs.words.Items.{glyphs_of-append}
use Rattle.tbr_model.proofs.rule.Content.{LooksAtKept, AnyEntry, AnyMode, StandsFor, by_entry, found_from}
use Rattle.tbr_model.proofs.rule.Walk.{any_entries}
use Rattle.tbr_model.proofs.rule.BlankLines.{blank_line}
use Rattle.tbr_model.proofs.rule.HardLines.{start_fresh, hard_lines_parted, ShowsOne}

visible-append : {A : Type 0} (columns : ℕ → Option ℕ) (is js : List (Item A)) → visible_glyphs columns (is ++ js) ≡ visible_glyphs columns is ++ visible_glyphs columns js
visible-append {A} columns is js = ap (filter (λ g. is_visible columns g.0)) (glyphs_of-append is js) ∙ filter-append (λ (g : ℕ × A). is_visible columns g.0) (glyphs_of is) (glyphs_of js)

-- nothing is visible in a word without a character
pub none_visible : {A : Type 0} (columns : ℕ → Option ℕ) (is : List (Item A)) → has_character is ≡ false → visible_glyphs columns is ≡ []
none_visible columns [] h = refl
none_visible columns (glyph c a ∷ is) h = cc
none_visible columns (marker m ∷ is) h = none_visible columns is h

pub white_not_visible : (columns : ℕ → Option ℕ) (c : ℕ) → is_whitespace c ≡ true → is_visible columns c ≡ false
white_not_visible columns c h = and_right (is_kept columns c) (not (is_whitespace c)) (not_from_true (is_whitespace c) h)

pub looks_at_characters : {A : Type 0} (columns : ℕ → Option ℕ) (Comes : Entry A → Type 0) (Modes : WhiteSpace → Type 0) → ((c : ℕ) (a b : A) (m : WhiteSpace) → Comes (character c a b m) → Modes m) →
    LooksAtKept columns Comes Modes (visible_glyphs columns)
looks_at_characters columns Comes Modes modes = grind (arith, visible-append, and_left, white_not_visible)

-- the visible ones among items that stand for entries, where each has a relation to its entry
pub visible_zip : {A : Type 0} (columns : ℕ → Option ℕ) (Modes : WhiteSpace → Type 0) (S : ℕ × A → Entry A → Type 0) →
    ((c : ℕ) (x a b : A) (m : WhiteSpace) → (x ≡ a) ⊎ ((x ≡ b) × Modes Pre) → S (c, x) (character c a b m)) →
    (is : List (Item A)) (es : List (Entry A)) → AllZip (StandsFor Modes) is es → AllZip S (visible_glyphs columns is) (visible_entries columns es)
visible_zip {A} columns Modes S each =
    by_entry Modes (λ is es. AllZip S (visible_glyphs columns is) (visible_entries columns es)) tt
    (λ c x a b m is es either rest. elim (cases_Bool (is_visible columns c)) [ inl e ↦ rw e (each c x a b m either, rest) | inr e ↦ rw e rest ]) (λ name is es rest. rest)

module _ {A : Type 0} (columns : ℕ → Option ℕ) (width : ℕ) (Same : A → A → Type 0) (same : (x : A) → Same x x) where
  pub under : (x a b : A) → (x ≡ a) ⊎ ((x ≡ b) × Unit {0}) → Same x a ⊎ Same x b
  under x a b (inl e) = inl (rw (← e) (same x))
  under x a b (inr e) = inr (rw (← e.0) (same x))

  -- the visible characters of a run from where a hard line begins, before a newline and at the end of the run
  visible_lines : (p : Progress A) (es : List (Event A)) → BeginsHardLine p →
      let q = fold (step columns width) p es in
      ShowsVisible columns Same (run_of es) (newline (flush_word columns width q)).laid.done × ShowsVisible columns Same (run_of es) (finished columns width q).done
  visible_lines p es f =
      let (ended, finished) = found_from (looks_at_characters columns AnyEntry AnyMode (λ c a b m h. tt)) (none_visible columns) width p es f (λ _. tt) (any_entries (run_of es)) in
      (rw (ended.are) (shown ended.items (run_of es) ended.stand), rw (finished.are) (shown finished.items (run_of es) finished.stand))
    where
      shown : (is : List (Item A)) (fs : List (Entry A)) → AllZip (StandsFor AnyMode) is fs → AllZip (IsShown Same) (visible_glyphs columns is) (visible_entries columns fs)
      shown = visible_zip columns AnyMode (IsShown Same) (λ c x a b m either. (refl, under x a b either))

  pub visible_from : (p : Progress A) (es : List (Event A)) → BeginsHardLine p → ShowsVisible columns Same (run_of es) (finished columns width (fold (step columns width) p es)).done
  visible_from p es f = (visible_lines p es f).1

  pub visible_ended : (p : Progress A) (es : List (Event A)) → BeginsHardLine p → ShowsVisible columns Same (run_of es) (newline (flush_word columns width (fold (step columns width) p es))).laid.done
  visible_ended p es f = (visible_lines p es f).0

  -- A block shows the visible characters of its run once, in order, each under an annotation of its call.
  pub visible_shown : (es : List (Event A)) → ShowsVisible columns Same (run_of es) (lines_of columns width es)
  visible_shown es = visible_from at_start es start_fresh

  -- ---- hard lines

  one_hard_line : ShowsOne columns width (ShowsHardLine columns Same) Preserves
  one_hard_line p es f m n = grind (arith, length-append, visible_ended, blank_line, visible_from)

  -- In a preserving run each hard line's visible characters are on lines of its own, and a newline ends a line.
  pub hard_lines_shown : (es : List (Event A)) → Each Preserves (run_of es) → Parted (ShowsHardLine columns Same) (hard_lines (run_of es)) (lines_of columns width es)
  hard_lines_shown es h = hard_lines_parted columns width (ShowsHardLine columns Same) Preserves (λ e m. m) one_hard_line es h
