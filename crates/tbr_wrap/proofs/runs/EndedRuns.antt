-- What a block's lines show of its run.
use Rattle.tbr_wrap.proofs.Common.{◌≡◌, ℕ, ◌<◌, ◌≤◌, inl, inr, Bool, true, false, Option, Some, None, IfSome, unwrap_or, List, [], ◌∷◌, ◌++◌, map, fold, refl, sym, ◌∙◌, subst, arith, lt-ltb, AllZip}
use Rattle.tbr_wrap.proofs.Common.{Each, cond_both, fold-append, Pre, PreWrap, Entry, character, marker_entry, Item, glyph, marker, items_width, has_character, trailing, reading, joined, IsNarrow}
use Rattle.tbr_wrap.proofs.Common.{Event, run_of, progress, finished, waiting, lines_of, IsNarrowEntry, is_visible, visible_glyphs, visible_entries, IsShown, each_append, each_front, each_back}
use Rattle.tbr_wrap.proofs.Common.{no_character_after_end, NormalBlank, HasBestLines, FitsBlock, EndedWordsFit, WordsFit, IsNormal, CharactersFit, VisibleFit}
use Rattle.std.proofs.Common.{filter, IsTrue}
use Rattle.tbr_model.specs.Run.{is_break_entry, word_of, Reading, start, works, read}
use Rattle.tbr_model.specs.Layout.{Slot, line_text}
use Rattle.tbr_model.specs.Greedy.{wrapped}
use Rattle.tbr_model.specs.Hard.{glyphs_of}
use Rattle.tbr_model.proofs.words.KeptItems.{narrow_markers}
use Rattle.tbr_model.proofs.words.LinesHaveCharacters.{HasGlyph, best_characters}
use Rattle.tbr_model.proofs.rule.PreservingModes.{pre_shown, prewrap_shown, tabs_shown}
use Rattle.tbr_model.proofs.rule.VisibleCharacters.{visible_shown, hard_lines_shown}
use Rattle.tbr_model.proofs.normal.LaidWords.{text_has}
use Rattle.tbr_model.proofs.normal.StaysLaid.{AllLaid, IsNarrowItem}
use Rattle.tbr_model.proofs.normal.LayoutSoFar.{NormalStands, normal_stands}
use Rattle.tbr_model.proofs.normal.TrailingMarkers.{normal_waiting}
use Rattle.tbr_model.proofs.normal.BestLines.{normal_lines, normal_blank}
use Rattle.tbr_wrap.specs.Runs.{IsNarrowIfVisible, IsShownBy}

-- ---- no line without a character

lines_full : {A : Type 0} (lines : List (List (Slot A))) → Each HasGlyph lines → Each (λ is. IsTrue (has_character is)) (map line_text lines)
lines_full [] k = tt
lines_full (l ∷ lines) k = (text_has l k.0, lines_full lines k.1)

-- ---- narrow items

each_filter : {X : Type 0} (P : X → Type 0) (f : X → Bool) (xs : List X) → Each P xs → Each P (filter f xs)
each_filter P f [] h = tt
each_filter {X} P f (x ∷ xs) h = cond_both (f x) _ _ (λ (ys : List X). Each P ys) (λ _. (h.0, each_filter P f xs h.1)) (λ _. each_filter P f xs h.1)

module _ {A : Type 0} (columns : ℕ → Option ℕ) (width : ℕ) where
  narrow_within : (is : List (Item A)) → items_width columns is ≤ width → IsNarrow columns width is
  narrow_within [] h = tt
  narrow_within (i ∷ is) h = (omega arith, narrow_within is (omega arith))

  -- what no line may be wider than
  narrow_lines : (ls : List (List (Item A))) → Each (FitsBlock columns width false) ls → Each (λ line. Each (IsNarrowItem columns width) line) ls
  narrow_lines [] h = tt
  narrow_lines (l ∷ ls) h = (elim h.0 [ inl fits ↦ narrow_within l fits | inr never ↦ absurd (let t : false ≡ true = never.0 in cc) ], narrow_lines ls h.1)

  narrow_joined : (ls : List (List (Item A))) → Each (λ line. Each (IsNarrowItem columns width) line) ls → IsNarrow columns width (joined ls)
  narrow_joined [] h = tt
  narrow_joined (l ∷ ls) h = each_append (IsNarrowItem columns width) l (joined ls) h.0 (narrow_joined ls h.1)

  -- ---- where a run ends

  module _ (es : List (Event A)) (fits : Each (FitsBlock columns width false) (lines_of columns width es)) where
    narrow_end : AllLaid (IsNarrowItem columns width) (finished columns width (progress columns width es))
    narrow_end = grind (arith, narrow_lines, narrow_markers, no_character_after_end)

    pub words_fit : IsNormal (run_of es) → WordsFit columns width (run_of es)
    words_fit normal = (normal_lines columns width es normal narrow_end).0

    pub waits_normal : IsNormal (run_of es) → waiting columns width (progress columns width es) ≡ trailing columns (run_of es)
    waits_normal normal = normal_waiting columns width es normal narrow_end

    best_texts : IsNormal (run_of es) → HasBestLines columns width (run_of es) (lines_of columns width es)
    best_texts normal =
        let (words, (lines, best, are)) = normal_lines columns width es normal narrow_end in
        record {
          lines = lines;
          best = best;
          shown = are;
          full = subst (Each (λ is. IsTrue (has_character is))) (sym are) (lines_full lines (best_characters columns width (run_of es) lines best));
        }

  -- ---- visible characters

  abbrev IsNarrowGlyph : ℕ × A → Type 0
  IsNarrowGlyph g = unwrap_or (columns g.0) 0 ≤ width

  glyphs_narrow : (is : List (Item A)) → IsNarrow columns width is → Each IsNarrowGlyph (glyphs_of is)
  glyphs_narrow [] h = tt
  glyphs_narrow (glyph c a ∷ is) h = (h.0, glyphs_narrow is h.1)
  glyphs_narrow (marker m ∷ is) h = glyphs_narrow is h.1

  shown_narrow : (eq : A → A → Bool) (gs : List (ℕ × A)) (es : List (Entry A)) → AllZip (IsShown (λ a b. eq a b ≡ true)) gs es → Each IsNarrowGlyph gs → Each (IsNarrowEntry columns width) es
  shown_narrow eq [] [] h k = tt
  shown_narrow eq (g ∷ gs) (marker_entry name ∷ es) h k = absurd h.0
  shown_narrow eq (g ∷ gs) (character c a b m ∷ es) h k = (subst (λ (d : ℕ). unwrap_or (columns d) 0 ≤ width) h.0.0 k.0, shown_narrow eq gs es h.1 k.1)
  shown_narrow eq _ _ h k = absurd h

  narrow_visible : (run : List (Entry A)) → Each (IsNarrowEntry columns width) (visible_entries columns run) → VisibleFit columns width run
  narrow_visible [] h = tt
  narrow_visible (marker_entry name ∷ run) h = (tt, narrow_visible run h)
  narrow_visible (character c a b m ∷ run) h =
      cond_both (is_visible columns c) _ _ (λ (es : List (Entry A)). Each (IsNarrowEntry columns width) es → IsNarrowIfVisible columns width (character c a b m) × VisibleFit columns width run)
      (λ _ k. (λ _. k.0, narrow_visible run k.1)) (λ hidden k. (λ visible. absurd (let t : true ≡ false = sym visible ∙ hidden in cc), narrow_visible run k)) h

  pub visible_fit : (es : List (Event A)) → Each (FitsBlock columns width false) (lines_of columns width es) → VisibleFit columns width (run_of es)
  visible_fit es fits =
      let ls : List (List (Item A)) = lines_of columns width es in
      let glyphs : Each IsNarrowGlyph (glyphs_of (joined ls)) = glyphs_narrow (joined ls) (narrow_joined ls (narrow_lines ls fits)) in
      let seen : Each IsNarrowGlyph (visible_glyphs columns (joined ls)) = each_filter IsNarrowGlyph (λ g. is_visible columns g.0) (glyphs_of (joined ls)) glyphs in
      narrow_visible (run_of es)
      (shown_narrow (λ x y. true) (visible_glyphs columns (joined ls)) (visible_entries columns (run_of es))
      (visible_shown columns width (λ x y. true ≡ true) (λ x. refl) es) seen)

-- ---- a whole run

module _ {A : Type 0} (columns : ℕ → Option ℕ) (width : ℕ) (one_space : columns 32 ≡ Some 1) (wide : 0 < width) where
  abbrev Same : A → A → Type 0
  Same a b = a ≡ b

  -- what a block's lines show of its run
  pub shown_run : (may_overflow : Bool) (es : List (Event A)) →
      Each (FitsBlock columns width may_overflow) (lines_of columns width es) →
      IsShownBy columns width may_overflow (run_of es) (lines_of columns width es)
  shown_run may_overflow es fits = record {
    best = λ never normal. best_texts columns width es (subst (λ (o : Bool). Each (FitsBlock columns width o) (lines_of columns width es)) never fits) normal;
    visible = visible_shown columns width Same (λ a. refl) es;
    hard = λ kept. hard_lines_shown columns width Same (λ a. refl) es kept;
    pre = λ modes. pre_shown columns Same width one_space wide (λ a. refl) es modes;
    prewrap = λ modes. prewrap_shown columns width one_space wide es modes;
    tabs = λ modes. elim modes [ inl m ↦ tabs_shown columns width one_space wide Pre (λ e. cc) es m | inr m ↦ tabs_shown columns width one_space wide PreWrap (λ e. cc) es m ];
  }

-- ---- a run of Normal mode under way

-- what ended before stays ended
ended_more : {A : Type 0} (columns : ℕ → Option ℕ) (width : ℕ) (more : List (Entry A)) (r : Reading A) →
    Each (λ w. IsNarrow columns width w.items) (fold (read columns) r more).words → Each (λ w. IsNarrow columns width w.items) r.words
ended_more columns width [] r h = h
ended_more {A} columns width (e ∷ more) r h =
    cond_both (works columns r e) _ _ (λ (q : Reading A). Each (λ w. IsNarrow columns width w.items) q.words → Each (λ w. IsNarrow columns width w.items) r.words)
    (λ _ k. each_front (λ w. IsNarrow columns width w.items) r.words (word_of r ∷ []) k) (λ _ k. k) (ended_more columns width more (read columns r e) h)

module _ {A : Type 0} (columns : ℕ → Option ℕ) (width : ℕ) where
  pub ended_fit-append : (run more : List (Entry A)) → EndedWordsFit columns width (run ++ more) → EndedWordsFit columns width run
  ended_fit-append run more h =
      ended_more columns width more (reading columns run) (subst (λ (q : Reading A). Each (λ w. IsNarrow columns width w.items) q.words) (fold-append (read columns) start run more) h)

  -- the items under way are a word's, or markers alone
  last_fits : (run : List (Entry A)) → WordsFit columns width run → IsNarrow columns width (reading columns run).items
  last_fits run fit = grind (arith, cond_both, each_back, narrow_markers)

  -- the words that have ended are some of all
  pub ended_of_all : (run : List (Entry A)) → WordsFit columns width run → EndedWordsFit columns width run
  ended_of_all run fit = grind (arith, cond_both, each_front)

  -- a break point ends the items under way, if they take columns
  broken_fits : (run : List (Entry A)) (e : Entry A) → is_break_entry e ≡ true →
      0 < items_width columns (reading columns run).items → EndedWordsFit columns width (run ++ e ∷ []) →
      IsNarrow columns width (reading columns run).items
  broken_fits run e breaks some fit = grind (arith, lt-ltb, fold-append, each_back)

  -- no line that is laid is wider than the block
  module _ (es : List (Event A)) (normal : IsNormal (run_of es)) (done : Each (FitsBlock columns width false) (progress columns width es).laid.done)
      (small : (progress columns width es).laid.width ≤ width) (line : (progress columns width es).laid.width ≡ items_width columns (progress columns width es).laid.line) where
    all_narrow : AllLaid (IsNarrowItem columns width) (progress columns width es).laid
    all_narrow = (narrow_lines columns width (progress columns width es).laid.done done, narrow_within columns width (progress columns width es).laid.line (omega (arith, small, line)))

    pub stands : let r = reading columns (run_of es) in EndedWordsFit columns width (run_of es) × NormalStands columns width (progress columns width es) (wrapped columns width r.words) r.gap r.items
    stands = normal_stands columns width es normal all_narrow

    pub blank_normal : NormalBlank columns (progress columns width es) (run_of es)
    blank_normal = normal_blank columns width es normal all_narrow

    -- a word that a break point ends has none
    pub narrow_if_ended : (e : Entry A) → is_break_entry e ≡ true →
        0 < items_width columns (progress columns width es).word → EndedWordsFit columns width (run_of es ++ e ∷ []) →
        IsNarrow columns width (progress columns width es).word
    narrow_if_ended e breaks some fit =
        subst (IsNarrow columns width) (sym stands.1.word)
        (broken_fits (run_of es) e breaks
        (subst (λ (js : List (Item A)). 0 < items_width columns js) stands.1.word some) fit)

    pub narrow_if_all : WordsFit columns width (run_of es) → IsNarrow columns width (progress columns width es).word
    narrow_if_all fit = subst (IsNarrow columns width) (sym stands.1.word) (last_fits (run_of es) fit)

-- ---- characters that all fit

two_narrow : (width : ℕ) → 2 ≤ width → (o : Option ℕ) → IfSome o (λ n. n ≤ 2) → unwrap_or o 0 ≤ width
two_narrow width two None h = omega arith
two_narrow width two (Some n) h = omega (arith, h, two)

-- at two columns
module _ {A : Type 0} (columns : ℕ → Option ℕ) (width : ℕ) (law : (c : ℕ) → IfSome (columns c) (λ n. n ≤ 2)) (two : 2 ≤ width) where
  pub two_columns_characters : (run : List (Entry A)) → CharactersFit columns width run
  two_columns_characters [] = tt
  two_columns_characters (marker_entry name ∷ run) = (tt, two_columns_characters run)
  two_columns_characters (character c a b m ∷ run) = (two_narrow width two (columns c) (law c), two_columns_characters run)
