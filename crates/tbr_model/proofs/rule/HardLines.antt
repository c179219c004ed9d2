-- What holds of one hard line at a time holds of a run of them.
use Rattle.tbr_model.proofs.Common.{◌≡◌, ℕ, ◌+◌, nat_lt, Bool, true, false, Option, List, [], ◌∷◌, ◌++◌, fold, refl, ap, sym, ◌∙◌, subst, append_assoc, append-nil, ltb-true, inl, inr, arith, Each}
use Rattle.tbr_model.proofs.Common.{cond_both, eqb-true, cases_Bool, fold-append, Normal, Pre, PreWrap, Entry, character, marker_entry, Item, items_width, has_character, Laid, end_if_character, Event}
use Rattle.tbr_model.proofs.Common.{call, entry, run_of, Progress, at_start, lay, flush_word, break_word, newline, enter, step, finished, lines_of, Preserves, onto_first, hard_lines, Parted}
use Rattle.tbr_model.specs.Hard.{is_newline}
use Rattle.tbr_model.proofs.lists.Each.{each_append}
use Rattle.tbr_model.proofs.words.LinesHaveCharacters.{wide_items}
use Rattle.tbr_model.proofs.rule.HardLineStart.{BeginsHardLine}
use Rattle.tbr_model.proofs.rule.DoneLines.{after, fold_after, finished_after}

-- ---- a word that is flushed

-- no character is on a fresh line
pub no_character_after_end : {A : Type 0} (l : Laid A) → has_character (end_if_character l).line ≡ false
no_character_after_end {A} l = cond_both (has_character l.line) _ _ (λ (m : Laid A). has_character m.line ≡ false) (λ _. refl) (λ h. h)

-- no character is left in a word that is laid
pub lay_flushes : {A : Type 0} (columns : ℕ → Option ℕ) (width : ℕ) (p : Progress A) → has_character (lay columns width p).word ≡ false
lay_flushes {A} columns width p = grind (arith, cond_both)

pub flush_flushes : {A : Type 0} (columns : ℕ → Option ℕ) (width : ℕ) (p : Progress A) → has_character (flush_word columns width p).word ≡ false
flush_flushes {A} columns width p =
    cond_both (has_character p.word) _ _ (λ (q : Progress A). has_character q.word ≡ false) (λ _. lay_flushes columns width p) (λ e. e)

-- a word without one stays
pub not_flushed : {A : Type 0} (columns : ℕ → Option ℕ) (width : ℕ) (p : Progress A) → has_character p.word ≡ false → flush_word columns width p ≡ p
not_flushed columns width p h = rw h refl

-- a break before it changes nothing
pub flush_after_break : {A : Type 0} (columns : ℕ → Option ℕ) (width : ℕ) (p : Progress A) → flush_word columns width (break_word columns width p) ≡ flush_word columns width p
flush_after_break {A} columns width p =
    cond_both (nat_lt 0 (items_width columns p.word)) _ _ (λ (q : Progress A). flush_word columns width q ≡ flush_word columns width p) wide (λ _. refl)
  where
    wide : nat_lt 0 (items_width columns p.word) ≡ true → flush_word columns width (lay columns width p) ≡ flush_word columns width p
    wide h = rw (lay_flushes columns width p, wide_items columns p.word (ltb-true _ _ h)) refl

-- ---- a newline

-- where a hard line begins, but for the lines that are done
pub restart : {A : Type 0} → Progress A → Progress A
restart p = record p { laid = record p.laid { done = [] } }

pub newline_fresh : {A : Type 0} (columns : ℕ → Option ℕ) (width : ℕ) (p : Progress A) → BeginsHardLine (restart (newline (flush_word columns width p)))
unfolding restart
newline_fresh columns width p =
    record { done = refl; line = refl; width = refl; space = refl; word = flush_flushes columns width p; continuation_flag = refl; in_continuation = refl }

-- where a run begins
pub start_fresh : {A : Type 0} → BeginsHardLine (at_start {A = A})
start_fresh = record { done = refl; line = refl; width = refl; space = refl; word = refl; continuation_flag = refl; in_continuation = refl }

pub restart_after : {A : Type 0} (p : Progress A) → after p.laid.done (restart p) ≡ p
unfolding restart
restart_after {A} p = ap (λ ls. record p { laid = record p.laid { done = ls } }) (append-nil p.laid.done)

-- in a preserving mode a newline ends the line after the word
pub enter_newline : {A : Type 0} (columns : ℕ → Option ℕ) (width : ℕ) (p : Progress A) (e : Entry A) → Preserves e → is_newline e ≡ true →
    enter columns width p e ≡ newline (flush_word columns width p)
enter_newline columns width p (marker_entry name) m h = cc
enter_newline columns width p (character c a b Normal) m h = absurd (m refl)
enter_newline {A} columns width p (character c a b Pre) m h = let n : c ≡ 10 = eqb-true c 10 h in rw n refl
enter_newline {A} columns width p (character c a b PreWrap) m h =
    let n : c ≡ 10 = eqb-true c 10 h in rw n (ap newline (flush_after_break columns width p))

-- ---- hard lines

pub run_of-append : {A : Type 0} (es fs : List (Event A)) → run_of (es ++ fs) ≡ run_of es ++ run_of fs
run_of-append [] fs = refl
run_of-append (call ∷ es) fs = run_of-append es fs
run_of-append {A} (entry e ∷ es) fs = ap (λ (r : List (Entry A)). e ∷ r) (run_of-append es fs)

-- no newline is among the entries
abbrev pub NoNewline : {A : Type 0} → List (Entry A) → Type 0
NoNewline es = Each (λ e. is_newline e ≡ false) es

pub hard_line_alone : {A : Type 0} (es : List (Entry A)) → NoNewline es → hard_lines es ≡ es ∷ []
hard_line_alone [] h = refl
hard_line_alone {A} (e ∷ es) h = rw (h.0) (ap (λ (r : List (List (Entry A))). onto_first e r) (hard_line_alone es h.1))

pub hard_line_first : {A : Type 0} (es : List (Entry A)) (n : Entry A) (fs : List (Entry A)) → NoNewline es → is_newline n ≡ true → hard_lines (es ++ n ∷ fs) ≡ es ∷ hard_lines fs
hard_line_first [] n fs h k = rw k refl
hard_line_first {A} (e ∷ es) n fs h k = rw (h.0) (ap (λ (r : List (List (Entry A))). onto_first e r) (hard_line_first es n fs h.1 k))

some_hard_line : {A : Type 0} (es : List (Entry A)) → (h : List (Entry A)) × (hs : List (List (Entry A))) × (hard_lines es ≡ h ∷ hs)
some_hard_line [] = ([], [], refl)
some_hard_line {A} (e ∷ es) =
    cond_both (is_newline e) _ _ (λ (r : List (List (Entry A))). (h : List (Entry A)) × (hs : List (List (Entry A))) × (r ≡ h ∷ hs))
    (λ _. ([], hard_lines es, refl)) (λ _. let (h, hs, is) = some_hard_line es in (e ∷ h, hs, ap (λ (r : List (List (Entry A))). onto_first e r) is))

-- a part before others
parted_front : {A Y : Type 0} (R : Bool → List (Entry A) → List Y → Type 0) (x : List (Entry A)) (es : List (Entry A)) (front back : List Y) → R true x front → Parted R (hard_lines es) back →
    Parted R (x ∷ hard_lines es) (front ++ back)
parted_front {A} {Y} R x es front back first others =
    let (h, hs, is) = some_hard_line es in
    subst (λ (r : List (List (Entry A))). Parted R (x ∷ r) (front ++ back)) (sym is) (front, back, refl, first, subst (λ (r : List (List (Entry A))). Parted R r back) is others)

-- each hard line whose entries have a property is shown so, before a newline and at the end of the run
abbrev pub ShowsOne : {A : Type 0} → (ℕ → Option ℕ) → ℕ → (Bool → List (Entry A) → List (List (Item A)) → Type 0) → (Entry A → Type 0) → Type 0
ShowsOne {A} columns width R M =
    (p : Progress A) (es : List (Event A)) → BeginsHardLine p → Each M (run_of es) → NoNewline (run_of es) →
    R true (run_of es) (newline (flush_word columns width (fold (step columns width) p es))).laid.done × R false (run_of es) (finished columns width (fold (step columns width) p es)).done

module _ {A : Type 0} (columns : ℕ → Option ℕ) (width : ℕ) (R : Bool → List (Entry A) → List (List (Item A)) → Type 0) (M : Entry A → Type 0) (preserves : (e : Entry A) → M e → Preserves e)
    (one : ShowsOne columns width R M) where
  -- entries that come, after a hard line's entries so far
  abbrev pub GoOn : List (Event A) → Type 0
  GoOn es = (p : Progress A) (so_far : List (Event A)) → BeginsHardLine p → Each M (run_of so_far) → NoNewline (run_of so_far) →
      Parted R (hard_lines (run_of so_far ++ run_of es)) (finished columns width (fold (step columns width) (fold (step columns width) p so_far) es)).done

  go_on_end : GoOn []
  go_on_end p so_far is_fresh modes plain = grind (arith, append-nil, hard_line_alone)

  -- by an event that is no newline
  go_on_more : (x : Event A) (es : List (Event A)) → Each M (run_of (x ∷ [])) → NoNewline (run_of (x ∷ [])) → GoOn es → GoOn (x ∷ es)
  go_on_more x es m k rest p so_far is_fresh modes plain =
      let same : run_of (so_far ++ x ∷ []) ≡ run_of so_far ++ run_of (x ∷ []) = run_of-append so_far (x ∷ []) in
      let later = rest p (so_far ++ x ∷ []) is_fresh (subst (Each M) (sym same) (each_append M (run_of so_far) (run_of (x ∷ [])) modes m))
      (subst NoNewline (sym same) (each_append (λ d. is_newline d ≡ false) (run_of so_far) (run_of (x ∷ [])) plain k)) in
      rw (same, fold-append (step columns width) p so_far (x ∷ []), append_assoc (run_of so_far) (run_of (x ∷ [])) (run_of es), ← run_of-append (x ∷ []) es) at later

  go_on_newline : (e : Entry A) (es : List (Event A)) → M e → is_newline e ≡ true → GoOn es → GoOn (entry e ∷ es)
  go_on_newline e es m k rest p so_far is_fresh modes plain = rw (hard_line_first (run_of so_far) e (run_of es) plain k, lines) all
    where
      q : Progress A
      q = fold (step columns width) p so_far

      ended_line : Progress A
      ended_line = newline (flush_word columns width q)

      all : Parted R (run_of so_far ∷ hard_lines (run_of es)) (ended_line.laid.done ++ (finished columns width (fold (step columns width) (restart ended_line) es)).done)
      all = parted_front R (run_of so_far) (run_of es) ended_line.laid.done (finished columns width (fold (step columns width) (restart ended_line) es)).done
          (one p so_far is_fresh modes plain).0 (rest (restart ended_line) [] (newline_fresh columns width q) tt tt)

      at_line : enter columns width q e ≡ after ended_line.laid.done (restart ended_line)
      at_line = enter_newline columns width q e (preserves e m) k ∙ sym (restart_after ended_line)

      lines : (finished columns width (fold (step columns width) (enter columns width q e) es)).done ≡
          ended_line.laid.done ++ (finished columns width (fold (step columns width) (restart ended_line) es)).done
      lines =
          ap (λ r. (finished columns width (fold (step columns width) r es)).done) at_line
          ∙ ap (λ r. (finished columns width r).done) (fold_after columns width ended_line.laid.done (restart ended_line) es)
          ∙ ap (λ l. l.done) (finished_after columns width ended_line.laid.done (fold (step columns width) (restart ended_line) es))

  go_on : (es : List (Event A)) → Each M (run_of es) → GoOn es
  go_on [] h = go_on_end
  go_on (call ∷ es) h = go_on_more call es tt tt (go_on es h)
  go_on (entry e ∷ es) h = elim (cases_Bool (is_newline e)) [ inl k ↦ go_on_newline e es h.0 k (go_on es h.1) | inr k ↦ go_on_more (entry e) es (h.0, tt) (k, tt) (go_on es h.1) ]

  -- what holds of each hard line, begun afresh, holds of the hard lines of a run
  pub hard_lines_parted : (es : List (Event A)) → Each M (run_of es) → Parted R (hard_lines (run_of es)) (lines_of columns width es)
  hard_lines_parted es h = go_on es h at_start [] start_fresh tt tt
