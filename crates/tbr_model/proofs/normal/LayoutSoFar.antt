-- A run of Normal mode is, by the rule, at the texts of the layout of its words so far.
use Rattle.tbr_model.proofs.Common.{◌≡◌, ℕ, ◌+◌, ◌<◌, ◌≤◌, ◌⊎◌, inl, inr, Bool, true, false, nat_lt, nat_le, if◌then◌else◌, Option, None, Some, List, [], ◌∷◌, ◌++◌, map, fold, refl, ap, sym, ◌∙◌}
use Rattle.tbr_model.proofs.Common.{subst, append_assoc, append-nil, ltb-true, lt-ltb, arith, Each, cond_both, or_parts, cases_Bool, fold-append, Normal, Pre, PreWrap, Entry, character, marker_entry}
use Rattle.tbr_model.proofs.Common.{Item, marker, items_width, items_of, kept_items, is_break, is_break_entry, is_blank, blank_of, first_of, has_character, Word, word_of, Reading, start, works, read}
use Rattle.tbr_model.proofs.Common.{reading, Slot, line_text, line_width, gap_text, gap_width, Lines, place_word, no_lines, wrapped, IsNarrow, Laid, end_if_character, extended, put_items, Event, call}
use Rattle.tbr_model.proofs.Common.{entry, run_of, Progress, lay, collapse, enter, step, progress, HasMode}
use Rattle.tbr_model.proofs.rule.LaidText.{text-extended, text-put_items}
use Rattle.tbr_model.proofs.words.Items.{WaitsIn}
use Rattle.tbr_model.proofs.lists.Each.{each_append, each_front, each_back}
use Rattle.tbr_model.proofs.words.BestLayout.{wrapped_holds}
use Rattle.tbr_model.proofs.words.KeptItems.{break_left}
use Rattle.tbr_model.proofs.words.LinesHaveCharacters.{HasGlyph, LastHas, place_characters, wide_items}
use Rattle.tbr_model.proofs.words.Regions.{first_of_none}
use Rattle.tbr_model.proofs.normal.LaidWords.{gap_after, text_of, normal_space, normal_at, laid_word, word_laid, place_wide, lay_normal}
use Rattle.tbr_model.proofs.normal.StaysLaid.{AllLaid, IsNarrowItem, laid_after, collapse_laid, laid_next}

-- What is laid is the text of lines, the space that waits is that of the gap after them, and the word holds the items.
-- The open line takes columns unless there are no lines at all, and no line is without a character.
pub record NormalStands {A : Type 0} (columns : ℕ → Option ℕ) (limit : ℕ) (p : Progress A) (lines : Lines A) (gap : Option A) (items : List (Item A)) : Type 0 where
  pub done : p.laid.done ≡ map line_text lines.done
  pub line : p.laid.line ≡ line_text lines.last
  pub width : p.laid.width ≡ line_width lines.last
  pub space : p.space ≡ normal_space (gap_after lines.last gap)
  pub word : p.word ≡ items
  pub continuation_flag : p.continuation_flag ≡ false
  pub in_continuation : p.in_continuation ≡ false
  pub mode : p.mode ≡ Normal
  pub fits : line_width lines.last ≤ limit
  pub begun : (lines ≡ no_lines) ⊎ (0 < line_width lines.last)
  pub full : Each HasGlyph lines.done
  pub last : LastHas lines.last

-- a state at lines
abbrev standing : {A : Type 0} → Lines A → Option A → List (Item A) → Progress A
standing lines gap items = normal_at (text_of lines) (gap_after lines.last gap) items

none_after : {A : Type 0} (last : List (Slot A)) → gap_after last None ≡ None
none_after [] = refl
none_after (s ∷ last) = refl

-- ---- white space

abbrev IsPositive : {A : Type 0} → List (Slot A) → Type 0
IsPositive [] = Unit {0}
IsPositive (s ∷ l) = 0 < line_width (s ∷ l)

some_positive : {A : Type 0} (last : List (Slot A)) → 0 < line_width last → IsPositive last
some_positive [] h = tt
some_positive (s ∷ last) h = h

collapse_at : {A : Type 0} (done : List (List (Slot A))) (last : List (Slot A)) (gap : Option A) (items : List (Item A)) (c : ℕ) (a : A) (b : Bool) → is_blank c ≡ b → IsPositive last →
    collapse c a (standing (record { done = done; last = last }) gap items) ≡ standing (record { done = done; last = last }) (first_of gap (if b then Some a else None)) items
collapse_at done [] gap items c a true e h = rw e refl
collapse_at done [] gap items c a false e h = rw e refl
collapse_at done (s ∷ last) None items c a true e h = let some : nat_lt 0 (line_width (s ∷ last)) ≡ true = lt-ltb _ _ h in rw (e, some) refl
collapse_at done (s ∷ last) None items c a false e h = rw e refl
collapse_at done (s ∷ last) (Some g) items c a true e h = let some : nat_lt 0 (line_width (s ∷ last)) ≡ true = lt-ltb _ _ h in rw (e, some) refl
collapse_at done (s ∷ last) (Some g) items c a false e h = rw e refl

collapse_standing : {A : Type 0} (lines : Lines A) (gap : Option A) (items : List (Item A)) (c : ℕ) (a : A) → IsPositive lines.last →
    collapse c a (standing lines gap items) ≡ standing lines (first_of gap (if is_blank c then Some a else None)) items
collapse_standing lines gap items c a h = collapse_at lines.done lines.last gap items c a (is_blank c) refl h

module _ {A : Type 0} (columns : ℕ → Option ℕ) (width : ℕ) where
  abbrev WordNarrow : Word A → Type 0
  WordNarrow w = IsNarrow columns width w.items

  abbrev WordWide : Word A → Type 0
  WordWide w = 0 < items_width columns w.items

  -- what is known of the ended words and of their lines
  pub record Lined (words : List (Word A)) : Type 0 where
    pub narrow : Each WordNarrow words
    pub wide : Each WordWide words
    pub begun : (words ≡ []) ⊎ (0 < line_width (wrapped columns width words).last)
    pub full : Each HasGlyph (wrapped columns width words).done
    pub last : LastHas (wrapped columns width words).last

  pub no_words : Lined []
  no_words = record { narrow = tt; wide = tt; begun = inl refl; full = tt; last = tt }

  pub wrapped-push : (words : List (Word A)) (w : Word A) → wrapped columns width (words ++ w ∷ []) ≡ place_word columns width (wrapped columns width words) w
  wrapped-push words w = fold-append (place_word columns width) no_lines words (w ∷ [])

  pub lined_fits : (words : List (Word A)) → Lined words → line_width (wrapped columns width words).last ≤ width
  lined_fits words h = (wrapped_holds columns width words h.narrow).legal.fits

  lined_positive : (words : List (Word A)) → Lined words → IsPositive (wrapped columns width words).last
  lined_positive words h = grind (arith, some_positive)

  lined_push : (words : List (Word A)) (w : Word A) → Lined words → IsNarrow columns width w.items → 0 < items_width columns w.items → Lined (words ++ w ∷ [])
  lined_push words w h narrow wide = grind (arith, wrapped-push, place_characters, wide_items, each_append, place_wide, lined_fits)

  -- where a reading is
  abbrev pub state_of : Reading A → Progress A
  state_of r = standing (wrapped columns width r.words) r.gap r.items

  -- ---- a word

  word_kept : (P : Item A → Type 0) (l : Laid A) (gap : Option A) (items : List (Item A)) → AllLaid P (laid_word columns width l gap items) → Each P items
  word_kept P l gap items h =
      cond_both (nat_le (l.width + (gap_width gap + items_width columns items)) width) _ _ (λ (k : Laid A). AllLaid P k → Each P items)
      (λ _ k. each_back P (gap_text gap) items
      (laid_after P l (extended l (gap_text gap ++ items) (gap_width gap + items_width columns items))
      (gap_text gap ++ items) (text-extended l (gap_text gap ++ items) (gap_width gap + items_width columns items)) k).1)
      (λ _ k. (laid_after P (end_if_character l) (put_items columns width (end_if_character l) items) items (text-put_items columns width items (end_if_character l)) k).1) h

  laid_at : (r : Reading A) → has_character r.items ≡ true →
      lay columns width (state_of r) ≡ normal_at (laid_word columns width (text_of (wrapped columns width r.words)) (gap_after (wrapped columns width r.words).last r.gap) r.items) None []
  laid_at r some = lay_normal columns width (text_of (wrapped columns width r.words)) (gap_after (wrapped columns width r.words).last r.gap) r.items some

  -- a word is narrow where all that is laid is
  pub lay_narrow : (r : Reading A) → has_character r.items ≡ true → AllLaid (IsNarrowItem columns width) (lay columns width (state_of r)).laid → IsNarrow columns width r.items
  lay_narrow r some all =
      let lines : Lines A = wrapped columns width r.words in
      word_kept (IsNarrowItem columns width) (text_of lines) (gap_after lines.last r.gap) r.items (subst (λ (p : Progress A). AllLaid (IsNarrowItem columns width) p.laid) (laid_at r some) all)

  -- and then it is placed
  pub lay_reading : (r : Reading A) → Lined r.words → has_character r.items ≡ true → IsNarrow columns width r.items →
      lay columns width (state_of r) ≡ normal_at (text_of (wrapped columns width (r.words ++ word_of r ∷ []))) None []
  lay_reading r h some narrow = grind (arith, laid_at, normal_at, word_laid, text_of, wrapped-push)

  -- ---- an entry

  abbrev Goes : Reading A → Entry A → Reading A → Type 0
  Goes r e q = (enter columns width (state_of r) e ≡ state_of q) × Lined q.words

  -- what a reading becomes, as the break point works or not
  abbrev after : Reading A → Entry A → Bool → Reading A
  after r e p =
      if p then record { words = r.words ++ word_of r ∷ []; gap = blank_of e; items = [] } else record { words = r.words; gap = first_of r.gap (blank_of e); items = r.items ++ items_of columns e }

  goes_marker : (r : Reading A) (name : List ℕ) → Lined r.words → Goes r (marker_entry name) (read columns r (marker_entry name))
  goes_marker r name h =
      (ap (λ (o : Option A). normal_at (text_of (wrapped columns width r.words)) (gap_after (wrapped columns width r.words).last o) (r.items ++ marker name ∷ [])) (sym (first_of_none r.gap)), h)

  goes_break : (r : Reading A) (c : ℕ) (a b : A) → is_break c ≡ true → Lined r.words → (0 < items_width columns r.items → IsNarrow columns width r.items) →
      Goes r (character c a b Normal) (read columns r (character c a b Normal))
  goes_break r c a b breaks h narrow = elim (cases_Bool (nat_lt 0 (items_width columns r.items))) [
    | inl wide ↦
        let words : List (Word A) = r.words ++ word_of r ∷ [] in
        let some : 0 < items_width columns r.items = ltb-true _ _ wide in
        let lined : Lined words = lined_push r.words (word_of r) h (narrow some) some in
        rw (breaks, wide) (
          ap (collapse c a)
              (lay_reading r h (wide_items columns r.items some) (narrow some)
              ∙ ap (λ (o : Option A). normal_at (text_of (wrapped columns width words)) o [])
              (sym (none_after (wrapped columns width words).last)))
              ∙ collapse_standing (wrapped columns width words) None [] c a (lined_positive words lined),
          lined,
        )
    | inr none ↦
        let left : r.items ++ items_of columns (character c a b Normal) ≡ r.items =
        ap (λ (is : List (Item A)). r.items ++ is) (break_left columns (character c a b Normal) breaks)
        ∙ append-nil r.items in
        rw (breaks, none) (
          collapse_standing (wrapped columns width r.words) r.gap r.items c a (lined_positive r.words h)
              ∙ ap (λ (is : List (Item A)). standing (wrapped columns width r.words) (first_of r.gap (blank_of (character c a b Normal))) is) (rw breaks at (sym left)),
          h,
        )
  ]

  goes_other : (r : Reading A) (c : ℕ) (a b : A) → is_break c ≡ false → Lined r.words → Goes r (character c a b Normal) (read columns r (character c a b Normal))
  goes_other r c a b breaks h = grind (arith, or_parts, cond_both, cases_Bool, first_of_none, append-nil)

  -- a word that a break point ends is narrow where all that is laid is
  enter_narrow : (r : Reading A) (e : Entry A) → HasMode Normal e → is_break_entry e ≡ true → AllLaid (IsNarrowItem columns width) (enter columns width (state_of r) e).laid →
      0 < items_width columns r.items → IsNarrow columns width r.items
  enter_narrow r (marker_entry name) mode breaks all wide = cc
  enter_narrow r (character c a b Pre) mode breaks all wide = cc
  enter_narrow r (character c a b PreWrap) mode breaks all wide = cc
  enter_narrow r (character c a b Normal) mode breaks all wide =
      let P : Item A → Type 0 = IsNarrowItem columns width in
      let takes : nat_lt 0 (items_width columns r.items) ≡ true = lt-ltb _ _ wide in
      let entered : (enter columns width (state_of r) (character c a b Normal)).laid ≡ (lay columns width (state_of r)).laid =
      rw (breaks, takes) (collapse_laid c a (lay columns width (state_of r))) in
      lay_narrow r (wide_items columns r.items wide) (subst (AllLaid P) entered all)

  goes : (r : Reading A) (e : Entry A) → HasMode Normal e → Lined r.words → (is_break_entry e ≡ true → 0 < items_width columns r.items → IsNarrow columns width r.items) → Goes r e (read columns r e)
  goes r (marker_entry name) mode h narrow = goes_marker r name h
  goes r (character c a b Pre) mode h narrow = cc
  goes r (character c a b PreWrap) mode h narrow = cc
  goes r (character c a b Normal) mode h narrow = elim (cases_Bool (is_break c)) [ inl e ↦ goes_break r c a b e h (narrow e) | inr e ↦ goes_other r c a b e h ]

  -- ---- a run

  waits_normally : (gap : Option A) → WaitsIn Normal (normal_space gap)
  waits_normally None = tt
  waits_normally (Some a) = refl

  runs : (es : List (Event A)) (r : Reading A) → Each (HasMode Normal) (run_of es) → Lined r.words → AllLaid (IsNarrowItem columns width) (fold (step columns width) (state_of r) es).laid →
      (fold (step columns width) (state_of r) es ≡ state_of (fold (read columns) r (run_of es))) × Lined (fold (read columns) r (run_of es)).words
  runs [] r modes h all = (refl, h)
  runs (call ∷ es) r modes h all = runs es r modes h all
  runs (entry e ∷ es) r modes h all =
      let P : Item A → Type 0 = IsNarrowItem columns width in
      let waits : WaitsIn Normal (state_of r).space = waits_normally (gap_after (wrapped columns width r.words).last r.gap) in
      let first : AllLaid P (enter columns width (state_of r) e).laid = laid_next columns width P (state_of r) e es modes.0 modes.1 waits all in
      let now = goes r e modes.0 h (λ breaks. enter_narrow r e modes.0 breaks first) in
      let later = runs es (read columns r e) modes.1 now.1 (subst (λ (p : Progress A). AllLaid P (fold (step columns width) p es).laid) now.0 all) in
      (ap (λ (p : Progress A). fold (step columns width) p es) now.0 ∙ later.0, later.1)

  -- where no item of the run is wider than a line
  pub narrow_runs : (es : List (Event A)) (r : Reading A) → Each (HasMode Normal) (run_of es) → Lined r.words → IsNarrow columns width (r.items ++ kept_items columns (run_of es)) →
      let q : Reading A = fold (read columns) r (run_of es) in
      (fold (step columns width) (state_of r) es ≡ state_of q) × Lined q.words × IsNarrow columns width q.items
  narrow_runs [] r modes h narrow = (refl, h, each_front (IsNarrowItem columns width) r.items [] narrow)
  narrow_runs (call ∷ es) r modes h narrow = narrow_runs es r modes h narrow
  narrow_runs (entry e ∷ es) r modes h narrow =
      let P : Item A → Type 0 = IsNarrowItem columns width in
      let kept : List (Item A) = kept_items columns (run_of es) in
      let now = goes r e modes.0 h (λ _ _. each_front P r.items (items_of columns e ++ kept) narrow) in
      let rest : IsNarrow columns width ((read columns r e).items ++ kept) =
      cond_both (works columns r e) _ _ (λ (q : Reading A). IsNarrow columns width (q.items ++ kept))
      (λ _. each_back P (items_of columns e) kept (each_back P r.items (items_of columns e ++ kept) narrow))
      (λ _. subst (Each P) (sym (append_assoc r.items (items_of columns e) kept)) narrow) in
      let later = narrow_runs es (read columns r e) modes.1 now.1 rest in
      (ap (λ (p : Progress A). fold (step columns width) p es) now.0 ∙ later.0, later.1, later.2)

  module _ (es : List (Event A)) (modes : Each (HasMode Normal) (run_of es)) (narrow : AllLaid (IsNarrowItem columns width) (progress columns width es).laid) where
    pub normal_state : (progress columns width es ≡ state_of (reading columns (run_of es))) × Lined (reading columns (run_of es)).words
    normal_state = runs es start modes no_words narrow

    pub normal_stands : let r = reading columns (run_of es) in
        Each (λ w. IsNarrow columns width w.items) r.words × NormalStands columns width (progress columns width es) (wrapped columns width r.words) r.gap r.items
    normal_stands =
        let r = reading columns (run_of es) in
        let lined : Lined r.words = normal_state.1 in (
          lined.narrow,
          subst (λ (p : Progress A). NormalStands columns width p (wrapped columns width r.words) r.gap r.items) (sym normal_state.0) (record {
            done = refl;
            line = refl;
            width = refl;
            space = refl;
            word = refl;
            continuation_flag = refl;
            in_continuation = refl;
            mode = refl;
            fits = lined_fits r.words lined;
            begun = elim lined.begun [ inl none ↦ inl (ap (wrapped columns width) none) | inr some ↦ inr some ];
            full = lined.full;
            last = lined.last;
          }),
        )
