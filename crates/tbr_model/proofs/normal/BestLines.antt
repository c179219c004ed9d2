-- A run of Normal mode ends, by the rule, with the lines of its best layout, and where such a run shows nothing.
use Rattle.tbr_model.proofs.Common.{◌≡◌, ℕ, ◌<◌, ◌≤◌, inl, inr, true, false, if◌then◌else◌, Option, List, [], ◌∷◌, ◌++◌, map, flat_map, refl, ap, sym, ◌∙◌, subst, arith, Each, cases_Bool, Normal}
use Rattle.tbr_model.proofs.Common.{Entry, Item, item_width, items_width, has_character, kept_items, Word, word_of, Reading, start, reading, words_of, trailing, Slot, slots_of, line_text, line_width}
use Rattle.tbr_model.proofs.Common.{IsBest, Lines, close, no_lines, wrapped, IsNarrow, Laid, end_if_character, Event, run_of, Progress, lay, progress, finished, lines_of, waiting, HasMode}
use Rattle.tbr_model.proofs.words.Items.{items_width-append, no_character_no_width}
use Rattle.tbr_model.proofs.lists.Each.{each_append}
use Rattle.tbr_model.proofs.words.BestLayout.{wrapped_holds, holds_best}
use Rattle.tbr_model.proofs.words.KeptItems.{held-fold}
use Rattle.tbr_model.proofs.words.LinesHaveCharacters.{LastHas, place_characters}
use Rattle.tbr_model.proofs.normal.LaidWords.{text_of, end_if_character_text, text_has}
use Rattle.tbr_model.proofs.normal.StaysLaid.{AllLaid, IsNarrowItem, laid_end_if_character, laid_before_end}
use Rattle.tbr_model.proofs.normal.LayoutSoFar.{Lined, no_words, state_of, lay_narrow, lay_reading, wrapped-push, narrow_runs, normal_state}

-- A run shows no columns where it keeps none, and no character where it keeps none.
pub record NormalBlank {A : Type 0} (columns : ℕ → Option ℕ) (p : Progress A) (run : List (Entry A)) : Type 0 where
  pub blank : items_width columns (kept_items columns run) ≡ 0 → (p.laid.width ≡ 0) × (items_width columns p.word ≡ 0) × (p.laid.done ≡ [])
  pub blank_if : p.laid.width ≡ 0 → items_width columns p.word ≡ 0 → items_width columns (kept_items columns run) ≡ 0
  pub bare : has_character (kept_items columns run) ≡ false → (p.laid.done ≡ []) × (has_character p.laid.line ≡ false) × (has_character p.word ≡ false)
  pub bare_if : has_character p.laid.line ≡ false → has_character p.word ≡ false → has_character (kept_items columns run) ≡ false

-- words that take no columns are none
no_wide : {A : Type 0} (columns : ℕ → Option ℕ) (words : List (Word A)) → Each (λ w. 0 < items_width columns w.items) words → items_width columns (flat_map (λ w. w.items) words) ≡ 0 → words ≡ []
no_wide columns [] h e = refl
no_wide columns (w ∷ words) h e = absurd (omega (arith, h.0, e, items_width-append columns w.items (flat_map (λ v. v.items) words)))

-- a line whose text has no character is empty
no_text : {A : Type 0} (last : List (Slot A)) → LastHas last → has_character (line_text last) ≡ false → line_width last ≡ 0
no_text [] h e = refl
no_text (s ∷ last) h e = absurd (let t : has_character (line_text (s ∷ last)) ≡ true = text_has (s ∷ last) h in cc)

module _ {A : Type 0} (columns : ℕ → Option ℕ) (width : ℕ) where
  -- ---- the end

  -- Where a reading ends, its words are narrow, what has been laid is closed, and what is left waits.
  reading_ends : (r : Reading A) → Lined columns width r.words → (has_character r.items ≡ true → IsNarrow columns width r.items) →
      let words : List (Word A) = if has_character r.items then r.words ++ word_of r ∷ [] else r.words in
      let lines : Lines A = wrapped columns width words in
      Each (λ w. IsNarrow columns width w.items) words × ((finished columns width (state_of columns width r)).done ≡ map line_text (close lines.done lines.last))
      × (waiting columns width (state_of columns width r) ≡ (if has_character r.items then [] else r.items))
  reading_ends r h narrow = elim (cases_Bool (has_character r.items)) [
    | inl e ↦
        let words : List (Word A) = r.words ++ word_of r ∷ [] in
        let placed = place_characters columns width (wrapped columns width r.words) r.gap r.items h.full h.last e (narrow e) in
        let closed = end_if_character_text (wrapped columns width words) (subst (λ (q : Lines A). LastHas q.last) (sym (wrapped-push columns width r.words (word_of r))) placed.1) in
        let laid = lay_reading columns width r h e (narrow e) in
        rw e (
          each_append (λ w. IsNarrow columns width w.items) r.words (word_of r ∷ []) h.narrow (narrow e, tt),
          ap (λ (p : Progress A). (end_if_character p.laid).done) laid ∙ ap (λ (l : Laid A). l.done) closed,
          ap (λ (p : Progress A). (end_if_character p.laid).line ++ p.word) laid ∙ ap (λ (l : Laid A). l.line ++ []) closed,
        )
    | inr e ↦ let closed = end_if_character_text (wrapped columns width r.words) h.last in rw e (h.narrow, ap (λ (l : Laid A). l.done) closed, ap (λ (l : Laid A). l.line ++ r.items) closed)
  ]

  -- a run that ends where its reading ends
  ends : (es : List (Event A)) → let r : Reading A = reading columns (run_of es) in
      progress columns width es ≡ state_of columns width r → Lined columns width r.words → (has_character r.items ≡ true → IsNarrow columns width r.items) →
      let lines : Lines A = wrapped columns width (words_of columns (run_of es)) in
      Each (λ w. IsNarrow columns width w.items) (words_of columns (run_of es)) × (lines_of columns width es ≡ map line_text (close lines.done lines.last))
      × (waiting columns width (progress columns width es) ≡ trailing columns (run_of es))
  ends es state h narrow =
      let k = reading_ends (reading columns (run_of es)) h narrow in
      (k.0, ap (λ (p : Progress A). (finished columns width p).done) state ∙ k.1, ap (waiting columns width) state ∙ k.2)

  best : (es : List (Event A)) → let lines : Lines A = wrapped columns width (words_of columns (run_of es)) in
      Each (λ w. IsNarrow columns width w.items) (words_of columns (run_of es)) → lines_of columns width es ≡ map line_text (close lines.done lines.last) →
      (ls : List (List (Slot A))) × IsBest width (slots_of columns width (run_of es)) ls × (lines_of columns width es ≡ map line_text ls)
  best es narrow are =
      (_, holds_best width (slots_of columns width (run_of es)) (wrapped columns width (words_of columns (run_of es))) (wrapped_holds columns width (words_of columns (run_of es)) narrow), are)

  -- where all that is laid at its end is narrow
  pub normal_end : (es : List (Event A)) → Each (HasMode Normal) (run_of es) → AllLaid (IsNarrowItem columns width) (finished columns width (progress columns width es)) →
      let lines : Lines A = wrapped columns width (words_of columns (run_of es)) in
      Each (λ w. IsNarrow columns width w.items) (words_of columns (run_of es)) × (lines_of columns width es ≡ map line_text (close lines.done lines.last))
      × (waiting columns width (progress columns width es) ≡ trailing columns (run_of es))
  normal_end es modes all =
      let P : Item A → Type 0 = IsNarrowItem columns width in
      let r : Reading A = reading columns (run_of es) in
      let state = normal_state columns width es modes (laid_before_end columns width P es modes all) in
      let there : AllLaid P (finished columns width (state_of columns width r)) = subst (λ (q : Progress A). AllLaid P (finished columns width q)) state.0 all in
      ends es state.0 state.1 (λ some. lay_narrow columns width r some (laid_end_if_character P (lay columns width (state_of columns width r)).laid (rw some at there)))

  pub normal_lines : (es : List (Event A)) → Each (HasMode Normal) (run_of es) → AllLaid (IsNarrowItem columns width) (finished columns width (progress columns width es)) →
      Each (λ w. IsNarrow columns width w.items) (words_of columns (run_of es)) ×
      ((lines : List (List (Slot A))) × IsBest width (slots_of columns width (run_of es)) lines × (lines_of columns width es ≡ map line_text lines))
  normal_lines es modes all = let k = normal_end es modes all in (k.0, best es k.0 k.1)

  -- if no item of the run is wider than a line
  pub normal_best : (es : List (Event A)) → Each (HasMode Normal) (run_of es) → Each (λ i. item_width columns i ≤ width) (kept_items columns (run_of es)) →
      (lines : List (List (Slot A))) × IsBest width (slots_of columns width (run_of es)) lines × (lines_of columns width es ≡ map line_text lines)
  normal_best es modes narrow = grind (arith, narrow_runs, no_words, ends, best)

  -- ---- runs that show nothing

  module _ (run : List (Entry A)) (h : Lined columns width (reading columns run).words) where
    abbrev r : Reading A
    r = reading columns run

    kept : flat_map (λ w. w.items) r.words ++ r.items ≡ kept_items columns run
    kept = held-fold columns run start

    kept_word : r.words ≡ [] → kept_items columns run ≡ r.items
    kept_word none = sym kept ∙ ap (λ (ws : List (Word A)). flat_map (λ w. w.items) ws ++ r.items) none

    no_words_if : line_width (wrapped columns width r.words).last ≡ 0 → r.words ≡ []
    no_words_if e = elim h.begun [ inl none ↦ none | inr some ↦ absurd (omega (arith, some, e)) ]

    blank_words : items_width columns (kept_items columns run) ≡ 0 → r.words ≡ []
    blank_words e = no_wide columns r.words h.wide (omega (arith, e, ap (items_width columns) kept, items_width-append columns (flat_map (λ w. w.items) r.words) r.items))

    nothing : r.words ≡ [] → text_of (wrapped columns width r.words) ≡ text_of no_lines
    nothing none = ap (λ (ws : List (Word A)). text_of (wrapped columns width ws)) none

    blank_state : NormalBlank columns (state_of columns width r) run
    blank_state = grind (arith, blank_words, nothing, kept_word, no_words_if, no_character_no_width, no_text)

  pub normal_blank : (es : List (Event A)) → Each (HasMode Normal) (run_of es) →
      AllLaid (IsNarrowItem columns width) (progress columns width es).laid →
      NormalBlank columns (progress columns width es) (run_of es)
  normal_blank es modes narrow = grind (arith, normal_state, blank_state)
