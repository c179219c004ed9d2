-- A hard line of printable characters and tabs, as long as it fits the open line.
use Rattle.tbr_model.proofs.Common.{◌≡◌, ℕ, ◌+◌, ◌-◌, ◌%◌, ◌≤◌, Bool, true, false, ◌&&◌, nat_lt, nat_le, Option, Some, List, [], ◌∷◌, ◌++◌, replicate, length, refl, ap, sym, ◌∙◌, arith, append_assoc}
use Rattle.tbr_model.proofs.Common.{append-nil, length-append, le-leb, lt-ltb, subst, ◌≢◌, ◌<◌, ◌⊎◌, inl, inr, ◌==◌, if◌then◌else◌, map, fold, ne_eqb, cond_both, both_ways, length-replicate}
use Rattle.tbr_model.proofs.Common.{replicate-append-replicate, WhiteSpace, Normal, Pre, PreWrap, glyph, items_width, has_character, is_break, character, marker_entry, Laid, extended, end_line}
use Rattle.tbr_model.proofs.Common.{end_if_character, Progress, spaces, pending_width, space_text, space_of, is_pre, lay_here, lay, flush_word, break_word, join, tab, tag_of, keep_space, passes}
use Rattle.tbr_model.proofs.Common.{keep_character, Event, call, entry, run_of, enter, step, lines_of, letters_of, HasMode, Preserves, entry_letters, IsPrintable, IsTabbedLine, EndsWithNonBlank}
use Rattle.tbr_model.proofs.Common.{ShowsTabs, hard_lines, Parted, Each, eqb_tells}
use Rattle.tbr_model.proofs.rule.HardLines.{ShowsOne, hard_lines_parted}
use Rattle.tbr_model.specs.Hard.{tabs_filled}
use Rattle.tbr_model.proofs.words.Items.{back_has, letters_of-append, items_width-append, no_character_no_width, no_letters, letters_of-spaces, letters_of-space_text, pending_width-of}
use Rattle.tbr_model.proofs.rule.Printable.{prepared, IsVisible, entered, preserved_space, entered_visible, visible_of}
use Rattle.tbr_model.proofs.lists.Each.{if_same, each_weaker}
use Rattle.tbr_model.proofs.rule.BlankLines.{mode_preserves}
use Rattle.tbr_model.proofs.rule.HardLineStart.{BeginsHardLine}

-- a text is on the open line, in the pending space and in the word, and no line is ended
pub record HoldsText {A : Type 0} (columns : ℕ → Option ℕ) (x : List ℕ) (p : Progress A) : Type 0 where
  pub done : p.laid.done ≡ []
  pub width : p.laid.width ≡ length (letters_of p.laid.line)
  pub word : items_width columns p.word ≡ length (letters_of p.word)
  pub text : letters_of p.laid.line ++ (replicate (pending_width p.space) 32 ++ letters_of p.word) ≡ x

-- how long the text is
pub reads_length : {A : Type 0} (columns : ℕ → Option ℕ) (x : List ℕ) (p : Progress A) → HoldsText columns x p →
    p.laid.width + (pending_width p.space + items_width columns p.word) ≡ length x
reads_length columns x p h = grind (arith, length-append, length-replicate, ℕ)

pub lay_fits : {A : Type 0} (columns : ℕ → Option ℕ) (width : ℕ) (x : List ℕ) (p : Progress A) → HoldsText columns x p → length x ≤ width → lay columns width p ≡ lay_here columns p
lay_fits columns width x p h fits = grind (arith, le-leb, reads_length)

-- the letters of the line on which space and word are laid
pub laid_letters : {A : Type 0} (columns : ℕ → Option ℕ) (p : Progress A) →
    letters_of (lay_here columns p).laid.line ≡ letters_of p.laid.line ++ (replicate (pending_width p.space) 32 ++ letters_of p.word)
laid_letters columns p =
    letters_of-append p.laid.line (space_text p.space ++ p.word)
    ∙ ap (λ cs. letters_of p.laid.line ++ cs)
    (letters_of-append (space_text p.space) p.word
    ∙ ap (λ cs. cs ++ letters_of p.word) (letters_of-space_text p.space))

pub lay_here_reads : {A : Type 0} (columns : ℕ → Option ℕ) (x : List ℕ) (p : Progress A) → HoldsText columns x p → HoldsText columns x (lay_here columns p)
lay_here_reads columns x p h = record {
  done = h.done;
  width = omega (arith, reads_length columns x p h, ap length (laid_letters columns p ∙ h.text));
  word = refl;
  text = append-nil (letters_of (lay_here columns p).laid.line) ∙ laid_letters columns p ∙ h.text;
}

-- the word is laid, if it takes columns
pub break_reads : {A : Type 0} (columns : ℕ → Option ℕ) (width : ℕ) (x : List ℕ) (p : Progress A) → HoldsText columns x p → length x ≤ width → HoldsText columns x (break_word columns width p)
break_reads {A} columns width x p h fits =
    cond_both (nat_lt 0 (items_width columns p.word)) _ _ (λ (q : Progress A). HoldsText columns x q) (λ _. rw (lay_fits columns width x p h fits) (lay_here_reads columns x p h)) (λ _. h)

-- the word is laid, if it has a character
pub flush_reads : {A : Type 0} (columns : ℕ → Option ℕ) (width : ℕ) (x : List ℕ) (p : Progress A) → HoldsText columns x p → length x ≤ width →
    HoldsText columns x (flush_word columns width p) × has_character (flush_word columns width p).word ≡ false
flush_reads {A} columns width x p h fits = grind (arith, cond_both, lay_fits, lay_here_reads)

pub prepared_reads : {A : Type 0} (columns : ℕ → Option ℕ) (width c : ℕ) (mode : WhiteSpace) (x : List ℕ)
    (p : Progress A) → HoldsText columns x p → length x ≤ width →
    HoldsText columns x (prepared columns width c mode p)
prepared_reads columns width c Normal x p h fits = h
prepared_reads columns width c Pre x p h fits = h
prepared_reads {A} columns width c PreWrap x p h fits =
    cond_both (is_break c) _ _ (λ (q : Progress A). HoldsText columns x q) (λ _. break_reads columns width x p h fits) (λ _. h)

-- a character joins the word
pub join_reads : {A : Type 0} (columns : ℕ → Option ℕ) (c : ℕ) (a : A) (mode : WhiteSpace) (x : List ℕ) (p : Progress A)
    → columns c ≡ Some 1 → HoldsText columns x p → HoldsText columns (x ++ c ∷ []) (join c a mode p)
join_reads {A} columns c a mode x p one h = record {
  done = h.done;
  width = h.width;
  word = omega (arith, items_width-append columns p.word (glyph c a ∷ []), h.word, ap length (letters_of-append p.word (glyph c a ∷ [])), length-append (letters_of p.word) (c ∷ []), wide);
  text = ap (λ cs. letters_of p.laid.line ++ (replicate (pending_width p.space) 32 ++ cs)) (letters_of-append p.word (glyph c a ∷ []))
      ∙ ap (λ cs. letters_of p.laid.line ++ cs) (sym (append_assoc (replicate (pending_width p.space) 32) (letters_of p.word) (c ∷ [])))
      ∙ sym (append_assoc (letters_of p.laid.line) (replicate (pending_width p.space) 32 ++ letters_of p.word) (c ∷ []))
      ∙ ap (λ cs. cs ++ c ∷ []) h.text;
}
  where
    wide : items_width columns (glyph c a ∷ []) ≡ 1
    wide = rw one refl

-- a space joins the word, or waits after other space
pub space_reads : {A : Type 0} (columns : ℕ → Option ℕ) (a : A) (mode : WhiteSpace) (x : List ℕ) (p : Progress A) →
    columns 32 ≡ Some 1 → HoldsText columns x p → HoldsText columns (x ++ 32 ∷ []) (keep_space 32 a mode (Some 1) p)
space_reads {A} columns a mode x p one h =
    cond_both (has_character p.word) _ _ (λ (q : Progress A). HoldsText columns (x ++ 32 ∷ []) q) (λ _. join_reads columns 32 a mode x p one h) (λ none. record {
      done = h.done;
      width = h.width;
      word = h.word;
      text = waits (no_letters p.word none) (pending_width p.space) (letters_of p.laid.line) h.text;
    })
  where
    waits : letters_of p.word ≡ [] → (n : ℕ) (l : List ℕ) → l ++ (replicate n 32 ++ letters_of p.word) ≡ x →
        l ++ (replicate (pending_width (space_of (n + 1) a mode)) 32 ++ letters_of p.word) ≡ x ++ 32 ∷ []
    waits e n l k =
        let more : replicate (n + 1) 32 ≡ replicate n 32 ++ 32 ∷ [] = sym (replicate-append-replicate n 1 32) in
        let without : l ++ replicate n 32 ≡ x = ap (λ cs. l ++ cs) (sym (append-nil (replicate n 32)) ∙ ap (λ cs. replicate n 32 ++ cs) (sym e)) ∙ k in
        rw (pending_width-of (n + 1) a mode) (ap (λ cs. l ++ (replicate (n + 1) 32 ++ cs)) e ∙ ap (λ cs. l ++ cs) (append-nil (replicate (n + 1) 32) ∙ more)
        ∙ sym (append_assoc l (replicate n 32) (32 ∷ [])) ∙ ap (λ cs. cs ++ 32 ∷ []) without)

pub continuation_reads : {A : Type 0} (columns : ℕ → Option ℕ) (x : List ℕ) (p : Progress A)
    (continuation_flag in_continuation : Bool) → HoldsText columns x p →
    HoldsText columns x (record p { continuation_flag = continuation_flag; in_continuation = in_continuation })
continuation_reads columns x p continuation_flag in_continuation h = record { done = h.done; width = h.width; word = h.word; text = h.text }

-- any other character joins the word
pub character_reads : {A : Type 0} (columns : ℕ → Option ℕ) (width c : ℕ) (a b : A) (mode : WhiteSpace) (x : List ℕ) (p : Progress A) → columns c ≡ Some 1 → HoldsText columns x p →
    HoldsText columns (x ++ c ∷ []) (keep_character columns width c a b mode (Some 1) p)
character_reads {A} columns width c a b mode x p one h =
    cond_both (is_pre mode && passes columns width 1 p) _ _ (λ (q : Progress A). HoldsText columns (x ++ c ∷ []) q)
    (λ _. join_reads columns c b mode x (record p { continuation_flag = true; in_continuation = true }) one
    (continuation_reads columns x p true true h)) (λ _. join_reads columns c (tag_of p a b) mode x p one h)

pub character_joins : {A : Type 0} (columns : ℕ → Option ℕ) (width c : ℕ) (a b : A) (mode : WhiteSpace) (p : Progress A) →
    has_character (keep_character columns width c a b mode (Some 1) p).word ≡ true
character_joins {A} columns width c a b mode p = grind (arith, cond_both, back_has)

-- spaces up to the next multiple of eight are after the text
pub tab_reads : {A : Type 0} (columns : ℕ → Option ℕ) (width : ℕ) (a : A) (x : List ℕ) (p : Progress A) → HoldsText columns x p → has_character p.word ≡ false →
    length x + (8 - length x % 8) ≤ width → HoldsText columns (x ++ replicate (8 - length x % 8) 32) (tab width a p)
tab_reads {A} columns width a x p h none fits = subst (λ (l : Laid A). HoldsText columns (x ++ replicate (8 - length x % 8) 32) (record p { laid = l })) (sym put) (record {
  done = h.done;
  width = omega (arith, h.width, ap length letters, length-append (letters_of p.laid.line) (replicate n 32), length-replicate {A = ℕ} n 32);
  word = h.word;
  text =
      ap (λ cs. cs ++ (replicate s 32 ++ letters_of p.word)) letters
      ∙ ap (λ cs. (letters_of p.laid.line ++ replicate n 32) ++ (replicate s 32 ++ cs)) empty ∙ turned
      ∙ ap (λ cs. cs ++ replicate n 32) before;
})
  where
    n : ℕ
    n = 8 - length x % 8

    s : ℕ
    s = pending_width p.space

    empty : letters_of p.word ≡ []
    empty = no_letters p.word none

    column : p.laid.width + s ≡ length x
    column = omega (arith, reads_length columns x p h, no_character_no_width columns p.word none)

    put : (tab width a p).laid ≡ extended p.laid (spaces n a) n
    put =
        let some : nat_lt (length x) width ≡ true = lt-ltb _ _ (omega (arith, fits)) in
        let room : nat_le n (width - length x) ≡ true = le-leb _ _ (omega (arith, fits)) in
        rw (column, some, room) refl

    letters : letters_of (p.laid.line ++ spaces n a) ≡ letters_of p.laid.line ++ replicate n 32
    letters = letters_of-append p.laid.line (spaces n a) ∙ ap (λ cs. letters_of p.laid.line ++ cs) (letters_of-spaces n a)

    before : letters_of p.laid.line ++ replicate s 32 ≡ x
    before = ap (λ cs. letters_of p.laid.line ++ cs) (sym (append-nil (replicate s 32)) ∙ ap (λ cs. replicate s 32 ++ cs) (sym empty)) ∙ h.text

    turned : (letters_of p.laid.line ++ replicate n 32) ++ (replicate s 32 ++ []) ≡ (letters_of p.laid.line ++ replicate s 32) ++ replicate n 32
    turned =
        ap (λ cs. (letters_of p.laid.line ++ replicate n 32) ++ cs) (append-nil (replicate s 32)) ∙ append_assoc (letters_of p.laid.line) (replicate n 32) (replicate s 32)
        ∙ ap (λ cs. letters_of p.laid.line ++ cs) (replicate-append-replicate n s 32 ∙ ap (λ k. replicate k 32) (let e : n + s ≡ s + n = omega arith in e) ∙ sym (replicate-append-replicate s n 32))
        ∙ sym (append_assoc (letters_of p.laid.line) (replicate s 32) (replicate n 32))

-- ---- one entry

-- what a character adds to the text after n columns
abbrev pub filled : ℕ → ℕ → List ℕ
filled n c = if c == 9 then replicate (8 - n % 8) 32 else c ∷ []

filled_first : (n c : ℕ) (cs : List ℕ) → tabs_filled n (c ∷ cs) ≡ filled n c ++ tabs_filled (n + length (filled n c)) cs
filled_first n c cs = grind (arith, if_same, ℕ, length-replicate)

module _ {A : Type 0} (columns : ℕ → Option ℕ) (width : ℕ) (a b : A) (mode : WhiteSpace) (kept : mode ≢ Normal) (x : List ℕ) (p : Progress A) (h : HoldsText columns x p) where
  tab_entered : length x + (8 - length x % 8) ≤ width → HoldsText columns (x ++ replicate (8 - length x % 8) 32) (enter columns width p (character 9 a b mode))
  tab_entered fits =
      let ready = prepared_reads columns width 9 mode x p h (omega (arith, fits)) in
      let flushed = flush_reads columns width x (prepared columns width 9 mode p) ready (omega (arith, fits)) in
      subst (HoldsText columns (x ++ replicate (8 - length x % 8) 32)) (sym (entered columns width 9 a b mode p kept))
      (tab_reads columns width (tag_of (prepared columns width 9 mode p) a b) x (flush_word columns width (prepared columns width 9 mode p)) flushed.0 flushed.1 fits)

  pub space_entered : columns 32 ≡ Some 1 → length x ≤ width → HoldsText columns (x ++ 32 ∷ []) (enter columns width p (character 32 a b mode))
  space_entered one fits =
      let ready = prepared_reads columns width 32 mode x p h fits in
      subst (HoldsText columns (x ++ 32 ∷ [])) (sym (entered columns width 32 a b mode p kept ∙ preserved_space columns width a b mode (prepared columns width 32 mode p) one))
      (space_reads columns (tag_of (prepared columns width 32 mode p) a b) mode x (prepared columns width 32 mode p) one ready)

  pub visible_entered : (c : ℕ) → IsVisible columns c →
      HoldsText columns (x ++ c ∷ []) (enter columns width p (character c a b mode)) × has_character (enter columns width p (character c a b mode)).word ≡ true
  visible_entered c v =
      subst (λ (q : Progress A). HoldsText columns (x ++ c ∷ []) q × has_character q.word ≡ true) (sym (entered_visible columns width c a b mode p kept v))
      (character_reads columns width c a b mode x p v.one h, character_joins columns width c a b mode p)

  abbrev Goal : ℕ → Type 0
  Goal c =
      let q = enter columns width p (character c a b mode) in
      HoldsText columns (x ++ filled (length x) c) q × ((c ≢ 32) × (c ≢ 9) → has_character q.word ≡ true)

  entry_reads : (c : ℕ) → columns 32 ≡ Some 1 → (c ≡ 9) ⊎ IsPrintable columns c → length x + length (filled (length x) c) ≤ width → Goal c
  entry_reads c one (inl is) fits =
      subst Goal (sym is) (tab_entered (omega (arith, fits, ap (λ k. length (filled (length x) k)) is, length-replicate {A = ℕ} (8 - length x % 8) 32)), λ w. absurd (w.1 refl))
  entry_reads c one (inr printable) fits = grind (arith, eqb_tells, space_entered, ne_eqb, visible_entered, visible_of)

-- ---- all entries

-- what is left ends with a non-blank, or nothing is left and the word has a character
abbrev Ends : Bool → List ℕ → Type 0
Ends has [] = has ≡ true
Ends has (c ∷ cs) = EndsWithNonBlank (c ∷ cs)

ends_on : (has : Bool) (c : ℕ) (cs : List ℕ) → EndsWithNonBlank (c ∷ cs) → ((c ≢ 32) × (c ≢ 9) → has ≡ true) → Ends has cs
ends_on has c [] h f = f h
ends_on has c (d ∷ cs) h f = h

tabs_read : {A : Type 0} (columns : ℕ → Option ℕ) (width : ℕ) (es : List (Event A)) (x all : List ℕ) (p : Progress A) →
    columns 32 ≡ Some 1 → Each Preserves (run_of es) → IsTabbedLine columns (run_of es) →
    Ends (has_character p.word) (entry_letters (run_of es)) → x ++ tabs_filled (length x) (entry_letters (run_of es)) ≡ all → length all ≤ width → HoldsText columns x p →
    HoldsText columns all (fold (step columns width) p es) × has_character (fold (step columns width) p es).word ≡ true
tabs_read columns width [] x all p one kept tabbed ends whole fits h = (subst (λ (t : List ℕ). HoldsText columns t p) (sym (append-nil x) ∙ whole) h, ends)
tabs_read columns width (call ∷ es) x all p one kept tabbed ends whole fits h =
    tabs_read columns width es x all (record p { in_continuation = p.continuation_flag }) one kept tabbed ends whole fits (continuation_reads columns x p p.continuation_flag p.continuation_flag h)
tabs_read columns width (entry (marker_entry name) ∷ es) x all p one kept tabbed ends whole fits h = absurd tabbed.0
tabs_read columns width (entry (character c a b mode) ∷ es) x all p one kept tabbed ends whole fits h =
    let cs = entry_letters (run_of es) in
    let first : x ++ (filled (length x) c ++ tabs_filled (length x + length (filled (length x) c)) cs) ≡ all = ap (λ ds. x ++ ds) (sym (filled_first (length x) c cs)) ∙ whole in
    let on : (x ++ filled (length x) c) ++ tabs_filled (length (x ++ filled (length x) c)) cs ≡ all =
    ap (λ k. (x ++ filled (length x) c) ++ tabs_filled k cs) (length-append x (filled (length x) c))
    ∙ append_assoc x (filled (length x) c) (tabs_filled (length x + length (filled (length x) c)) cs) ∙ first in
    let room : length x + length (filled (length x) c) ≤ width =
    omega (arith, fits, ap length on, length-append x (filled (length x) c), length-append (x ++ filled (length x) c) (tabs_filled (length (x ++ filled (length x) c)) cs)) in
    let next = entry_reads columns width a b mode kept.0 x p h c one tabbed.0 room in
    tabs_read columns width es (x ++ filled (length x) c) all (enter columns width p (character c a b mode)) one kept.1 tabbed.1
    (ends_on _ c cs ends next.1) on fits next.0

-- ---- the end

-- nothing is read
pub fresh_reads : {A : Type 0} (columns : ℕ → Option ℕ) (p : Progress A) → BeginsHardLine p → HoldsText columns [] p
fresh_reads columns p h = grind (arith, no_character_no_width, no_letters)

-- The lines of a hard line whose only line has the letters, where another follows and where none does.
abbrev pub IsLine : {A : Type 0} → List ℕ → Laid A → Type 0
IsLine x l = (map letters_of (end_line l).done ≡ x ∷ []) × (map letters_of (end_if_character l).done ≡ x ∷ [])

pub line_is : {A : Type 0} (x : List ℕ) (l : Laid A) → l.done ≡ [] → letters_of l.line ≡ x → has_character l.line ≡ true → IsLine x l
line_is {A} x l done letters has = grind (arith, cond_both, both_ways)

pub laid_has : {A : Type 0} (columns : ℕ → Option ℕ) (p : Progress A) → has_character p.word ≡ true → has_character (lay_here columns p).laid.line ≡ true
laid_has columns p has = back_has p.laid.line (space_text p.space ++ p.word) (back_has (space_text p.space) p.word has)

pub end_reads : {A : Type 0} (columns : ℕ → Option ℕ) (width : ℕ) (x : List ℕ) (p : Progress A) →
    HoldsText columns x p → length x ≤ width → has_character p.word ≡ true → IsLine x (flush_word columns width p).laid
end_reads columns width x p h fits has =
    rw has (rw (lay_fits columns width x p h fits) (line_is x (lay_here columns p).laid h.done (laid_letters columns p ∙ h.text) (laid_has columns p has)))

some_end : (cs : List ℕ) → EndsWithNonBlank cs → Ends false cs
some_end [] h = absurd h
some_end (c ∷ cs) h = h

-- Tabs of a hard line in a run of one preserving mode.
tab_line : {A : Type 0} (columns : ℕ → Option ℕ) (width : ℕ) → columns 32 ≡ Some 1 → 0 < width → (mode : WhiteSpace) →
    mode ≢ Normal → ShowsOne columns width (ShowsTabs {A = A} columns width) (HasMode mode)
tab_line {A} columns width one some mode kept p es h modes no_newline =
    (record { tabs = λ tabbed ends fits. (line tabbed ends fits).0 }, record { tabs = λ tabbed ends fits. (line tabbed ends fits).1 })
  where
    line : IsTabbedLine columns (run_of es) → EndsWithNonBlank (entry_letters (run_of es)) → length (tabs_filled 0 (entry_letters (run_of es))) ≤ width →
        IsLine (tabs_filled 0 (entry_letters (run_of es))) (flush_word columns width (fold (step columns width) p es)).laid
    line tabbed ends fits =
        let starts : Ends (has_character p.word) (entry_letters (run_of es)) = rw (h.word) (some_end (entry_letters (run_of es)) ends) in
        let both =
        tabs_read columns width es [] (tabs_filled 0 (entry_letters (run_of es))) p one
        (each_weaker (HasMode mode) Preserves (mode_preserves mode kept) (run_of es) modes) tabbed starts refl
        fits (fresh_reads columns p h) in
        end_reads columns width (tabs_filled 0 (entry_letters (run_of es))) (fold (step columns width) p es) both.0 fits both.1

-- each hard line's tabs, in a run of one preserving mode
pub tabs_shown : {A : Type 0} (columns : ℕ → Option ℕ) (width : ℕ) → columns 32 ≡ Some 1 → 0 < width → (mode : WhiteSpace) → mode ≢ Normal → (es : List (Event A)) →
    Each (HasMode mode) (run_of es) → Parted (ShowsTabs columns width) (hard_lines (run_of es)) (lines_of columns width es)
tabs_shown columns width one some mode kept =
    hard_lines_parted columns width (ShowsTabs columns width) (HasMode mode) (mode_preserves mode kept) (tab_line columns width one some mode kept)
