-- The smallest wrong lines of `Normal` runs, which aren't those of the best layout that blocks and renderers promise.
use Rattle.rule_examples.proofs.Common.{◌≡◌, ℕ, false, None, List, [], ◌∷◌, ◌++◌, refl, ap, sym, ◌∙◌, codes, Normal, zero_width_space, marker, stroke, done, new_block, example_columns, line}
use Rattle.std.proofs.Common.{◌<◌, ◌+◌, map, arith}
use Rattle.tbr_model.specs.Layout.{line_text, slots_of, joined, placed}
use Rattle.tbr_model.specs.Rule.{Event, entry, run_of}
use Rattle.tbr_model.specs.Run.{Item, glyph, marker_entry}
use Rattle.tbr_model.proofs.layouts.Ahead.{unique}
use Rattle.tbr_wrap.specs.Block.{Block, text_events, after_flush, flushed, all_lines}
use Rattle.tbr_wrap.specs.Runs.{IsNormal, text_entries}
use Rattle.tbr_wrap.specs.Wrapped.{HasBestLines}
use Rattle.tbr_wrap.proofs.runs.BlockLaws.{flush_best}

module _ {A : Type 0} where
  -- what a text under one annotation brings
  abbrev said : A → List ℕ → List (Event A)
  said a cs = text_events cs a a Normal

  -- what blocks and renderers promise of the lines of a run
  abbrev Promised : ℕ → List (Event A) → List (List (Item A)) → Type 0
  Promised width es lines = HasBestLines example_columns width (run_of es) lines

  -- it holds of the lines that a block gives, and of no others
  only : (width : ℕ) (es : List (Event A)) (lines : List (List (Item A))) → 0 < width →
      (let s : Block A = record (new_block width false None) { events = es } in
      after_flush example_columns s ≡ done (flushed example_columns s) → IsNormal (run_of es) → Promised width es lines →
      lines ≡ all_lines example_columns s)
  only width es lines wide ends normal h =
      let s : Block A = record (new_block width false None) { events = es } in
      let best = flush_best example_columns refl s wide (flushed example_columns s) ends refl normal in
      h.shown ∙ ap (map line_text) (unique width (slots_of example_columns width (run_of es)) best.lines h.lines best.best h.best) ∙ sym best.shown

  module _ (a : A) where
    -- a text is `Normal`
    normal : (cs : List ℕ) → IsNormal (run_of (map entry (text_entries cs a a Normal)))
    normal [] = tt
    normal (c ∷ cs) = (refl, normal cs)

    pub a_word_that_fits_is_not_on_a_line_of_its_own :
        Promised 3 (said a (codes "a b")) (line a (codes "a") ∷ line a (codes "b") ∷ []) → ⊥
    a_word_that_fits_is_not_on_a_line_of_its_own h =
        let no : 1 ≡ 3 = ap (placed 1) (only 3 (said a (codes "a b")) _ (omega arith) refl (normal (codes "a b")) h) in omega (arith, no)

    pub a_fitting_word_is_not_cut :
        Promised 3 (said a (codes "a bcd")) (line a (codes "a b") ∷ line a (codes "cd") ∷ []) → ⊥
    a_fitting_word_is_not_cut h =
        let no : 3 ≡ 1 = ap (placed 1) (only 3 (said a (codes "a bcd")) _ (omega arith) refl (normal (codes "a bcd")) h) in omega (arith, no)

    pub a_wider_word_is_not_after_another :
        Promised 3 (said a (codes "a bcde")) (line a (codes "a b") ∷ line a (codes "cde") ∷ []) → ⊥
    a_wider_word_is_not_after_another h =
        let no : 3 ≡ 1 = ap (placed 1) (only 3 (said a (codes "a bcde")) _ (omega arith) refl (normal (codes "a bcde")) h) in omega (arith, no)

    pub a_wider_word_is_not_shortened :
        Promised 2 (said a (codes "abc")) (line a (codes "ab") ∷ []) → ⊥
    a_wider_word_is_not_shortened h =
        let no : 2 ≡ 3 = ap (placed 2) (only 2 (said a (codes "abc")) _ (omega arith) refl (normal (codes "abc")) h) in omega (arith, no)

    pub two_spaces_are_not_kept :
        Promised 4 (said a (codes "a  b")) (line a (codes "a  b") ∷ []) → ⊥
    two_spaces_are_not_kept h =
        let no : 4 ≡ 3 = ap (placed 1) (only 4 (said a (codes "a  b")) _ (omega arith) refl (normal (codes "a  b")) h) in omega (arith, no)

    pub a_zero_width_space_is_no_space :
        Promised 3 (said a (codes "a" ++ zero_width_space ∷ codes "b")) (line a (codes "a b") ∷ []) → ⊥
    a_zero_width_space_is_no_space h =
        let no : 3 ≡ 2 = ap (placed 1) (only 3 (said a (codes "a" ++ zero_width_space ∷ codes "b")) _ (omega arith) refl (normal (codes "a" ++ zero_width_space ∷ codes "b")) h) in omega (arith, no)

    -- even where there are as many lines
    pub lines_are_not_balanced :
        Promised 5 (said a (codes "a b c dd")) (line a (codes "a b") ∷ line a (codes "c dd") ∷ []) → ⊥
    lines_are_not_balanced h =
        let no : 3 ≡ 5 = ap (placed 1) (only 5 (said a (codes "a b c dd")) _ (omega arith) refl (normal (codes "a b c dd")) h) in omega (arith, no)

    pub a_last_word_of_no_width_is_not_dropped :
        Promised 1 (said a (codes "a " ++ stroke ∷ [])) (line a (codes "a") ∷ []) → ⊥
    a_last_word_of_no_width_is_not_dropped h =
        let no : 1 ≡ 2 = ap (placed 2) (only 1 (said a (codes "a " ++ stroke ∷ [])) _ (omega arith) refl (normal (codes "a " ++ stroke ∷ [])) h) in omega (arith, no)

    pub a_marker_of_a_moved_word_is_not_left_out :
        Promised 2 (said a (codes "a ") ++ entry (marker_entry (codes "x")) ∷ said a (codes "bc")) (line a (codes "a") ∷ line a (codes "bc") ∷ []) → ⊥
    a_marker_of_a_moved_word_is_not_left_out h =
        let no : 3 ≡ 4 = ap (placed 2)
        (only 2 (said a (codes "a ") ++ entry (marker_entry (codes "x")) ∷ said a (codes "bc")) _
        (omega arith) refl (refl, (refl, (tt, (refl, (refl, tt))))) h) in omega (arith, no)

    pub a_text_is_not_flushed_by_itself :
        Promised 2 (said a (codes "a") ++ said a (codes "b")) (line a (codes "a") ∷ line a (codes "b") ∷ []) → ⊥
    a_text_is_not_flushed_by_itself h =
        let no : 1 ≡ 2 = ap (placed 1) (only 2 (said a (codes "a") ++ said a (codes "b")) _ (omega arith) refl (refl, (refl, tt)) h) in omega (arith, no)

-- the annotations of characters
abbrev annotations : List (Item ℕ) → ℕ
annotations [] = 0
annotations (glyph c a ∷ is) = a + annotations is
annotations (marker name ∷ is) = annotations is

-- each character of a word is under its own
pub a_word_is_not_under_its_first_annotation :
    Promised {A = ℕ} 2 (said 1 (codes "a") ++ said 2 (codes "b")) (line 1 (codes "ab") ∷ []) → ⊥
a_word_is_not_under_its_first_annotation h =
    let no : 2 ≡ 3 = ap (λ ls. annotations (joined ls)) (only {A = ℕ} 2 (said 1 (codes "a") ++ said 2 (codes "b")) _ (omega arith) refl (refl, (refl, tt)) h) in omega (arith, no)
