-- A hard line of `PreWrap` is wrapped: spaces are dropped, and a line ends, only where the next stretch doesn't fit.
use Rattle.tbr_model.proofs.Common.{◌≡◌, ℕ, ◌+◌, ◌<◌, ◌≤◌, ◌⊎◌, inl, inr, Bool, true, false, nat_le, if◌then◌else◌, Option, Some, None, List, [], ◌∷◌, ◌++◌, map, fold, replicate, length, refl, ap}
use Rattle.tbr_model.proofs.Common.{sym, ◌∙◌, arith, append_assoc, append-nil, length-append, subst, leb-true, leb-false, lt-ltb, Each, cond_both, cases_Bool, eqb_tells, map-append, length-replicate}
use Rattle.tbr_model.proofs.Common.{PreWrap, character, marker_entry, Item, glyph, items_width, has_character, Laid, end_line, end_if_character, put_items, Event, call, entry, run_of, Progress, Space}
use Rattle.tbr_model.proofs.Common.{pending_width, space_of, trimmed, wrap_space_by, wrap_space, is_pre, lay_here, lay_fresh, lay, flush_word, break_word, join, tag_of, keep_space, newline, enter}
use Rattle.tbr_model.proofs.Common.{step, finished, HasMode, letters_of, entry_letters, IsPrintableLine, IsSpaces, EndsWithNonBlank, IsWrapped}
use Rattle.tbr_model.proofs.rule.BlankLines.{not_broken}
use Rattle.tbr_model.proofs.words.Items.{letters_of-append, some_letters, has_letters, no_letters, no_character_no_width, WaitsIn, pending_width-of}
use Rattle.tbr_model.proofs.tabs.HardLine.{laid_letters}
use Rattle.tbr_model.proofs.rule.Printable.{visible_of, preserved_space, entered_visible}
use Rattle.tbr_model.proofs.rule.HardLineStart.{BeginsHardLine}
use Rattle.tbr_model.proofs.prewrap.WrappedText.{GoesOnFrom, GoesOn, IsOpen, ends_nonblank, ends_append, goes_on_some, ended, begun, on_line, from_some, from_none, begins_after, first_begins}
use Rattle.tbr_model.proofs.prewrap.WrappedText.{spaces_alone, one_more_space}
use Rattle.tbr_model.proofs.prewrap.PutText.{trailing_whole, nonblanks, PutsText, ReachesFrom, put_text, IsVisibleOrMarker, plain_width, plain_leading, IsReadyForWord, waits, join_ready, fresh_ready}

module _ {A : Type 0} (columns : ℕ → Option ℕ) (width : ℕ) (some : 0 < width) where
  -- ---- a word

  -- these lines, after those that are then done, are lines on which the first's text goes on with more
  abbrev LaysOn : Progress A → Laid A → List ℕ → List (List ℕ) → Type 0
  LaysOn p r text ls =
      (all : List (List ℕ)) × (map letters_of r.done ++ ls ≡ map letters_of p.laid.done ++ all)
      × GoesOn width (letters_of p.laid.line) (replicate (pending_width p.space) 32 ++ (letters_of p.word ++ text)) all

  -- A word that is laid makes the open line hold something, and lines that go on from there go on from the line before.
  record LaysText (p q : Progress A) : Type 0 where
    line : EndsWithNonBlank (letters_of q.laid.line) × (length (letters_of q.laid.line) ≤ width)
    measured : 0 < length (letters_of q.laid.line)
    columns_are : q.laid.width ≡ length (letters_of q.laid.line)
    space : q.space ≡ None
    word : q.word ≡ []
    goes : (text : List ℕ) (ls : List (List ℕ)) → GoesOnFrom width (letters_of q.laid.line) text ls → LaysOn p q.laid text ls

  here_text : (p : Progress A) → IsReadyForWord columns p → has_character p.word ≡ true → p.laid.width + (pending_width p.space + items_width columns p.word) ≤ width → LaysText p (lay_here columns p)
  here_text p h has fits =
      let line = letters_of p.laid.line in
      let gap : List ℕ = replicate (pending_width p.space) 32 in
      let w = letters_of p.word in
      let is : letters_of (lay_here columns p).laid.line ≡ line ++ (gap ++ w) = laid_letters columns p in
      let long : 0 < length w = some_letters p.word has in
      let ends : EndsWithNonBlank w = ends_nonblank w (nonblanks columns p.word h.plain) long in
      let size : length (line ++ (gap ++ w)) ≡ length line + (pending_width p.space + length w) =
      omega (arith, length-append line (gap ++ w), length-append gap w, length-replicate {A = ℕ} (pending_width p.space) 32) in
      record {
        line = subst (λ (cs : List ℕ). EndsWithNonBlank cs × (length cs ≤ width)) (sym is)
            (ends_append line (gap ++ w) (ends_append gap w ends), omega (arith, size, fits, h.measured, plain_width columns p.word h.plain));
        measured = omega (arith, ap length is, size, long);
        columns_are = omega (arith, ap length is, size, h.measured, plain_width columns p.word h.plain);
        space = refl;
        word = refl;
        goes = λ text ls g. (
          ls,
          refl,
          subst (λ (cs : List ℕ). GoesOn width line cs ls) (append_assoc gap w text) (on_line width line (gap ++ w) text ls (subst (λ (cs : List ℕ). GoesOnFrom width cs text ls) is g)),
        );
      }

  -- what is left of a word that doesn't fit: what was laid, no space and the whole word
  record HasDropped (p q : Progress A) : Type 0 where
    done : q.laid.done ≡ p.laid.done
    line : letters_of q.laid.line ≡ letters_of p.laid.line
    empty : has_character q.laid.line ≡ false → q.laid.width ≡ 0
    space : q.space ≡ None
    word : q.word ≡ p.word

  dropped : (p : Progress A) → IsReadyForWord columns p → IsOpen width (letters_of p.laid.line) → HasDropped p (wrap_space columns width p p.space)
  dropped p h line = go p.space refl h.wraps
    where
      nonblank : (letters_of p.laid.line ≡ []) ⊎ EndsWithNonBlank (letters_of p.laid.line)
      nonblank = elim line [ inl none ↦ inl none | inr ends ↦ inr ends.0 ]

      go : (o : Option (Space A)) → p.space ≡ o → WaitsIn PreWrap o → HasDropped p (wrap_space columns width p o)
      go None e w = record { done = refl; line = refl; empty = λ none. h.measured ∙ ap length (no_letters p.laid.line none); space = e; word = refl }
      go (Some s) e w =
          subst (λ m. HasDropped p (wrap_space_by columns width p s m)) (sym w)
          (record {
            done = refl;
            line = ap letters_of (trailing_whole p.laid.line nonblank);
            empty = no_character_no_width columns (trimmed columns p.laid).line;
            space = refl;
            word = plain_leading columns p.word h.plain;
          })

  -- where the word begins a line after what is ended
  fresh_text : (p q : Progress A) → IsReadyForWord columns p → IsOpen width (letters_of p.laid.line) → has_character p.word ≡ true →
      width < p.laid.width + (pending_width p.space + items_width columns p.word) → HasDropped p q → LaysText p (lay_fresh columns width q)
  fresh_text p q h line has over d = rw (d.space, d.word, has) (go (has_character q.laid.line) refl)
    where
      w : List ℕ
      w = letters_of p.word

      long : 0 < length w
      long = some_letters p.word has

      n : ℕ
      n = pending_width p.space

      columns_over : width < length (letters_of p.laid.line) + (n + length w)
      columns_over = omega (arith, over, h.measured, plain_width columns p.word h.plain)

      lays : (l : Laid A) → PutsText columns width some l [] w (put_items columns width l p.word) →
          ((text : List ℕ) (ls : List (List ℕ)) → ReachesFrom columns width some l [] w (put_items columns width l p.word) text ls → LaysOn p (put_items columns width l p.word) text ls) →
          LaysText p (let r : Progress A = record q { laid = put_items columns width l p.word; space = None; word = []; continuation_flag = is_pre q.mode } in r)
      lays l k on = record {
        line = (ends_nonblank (letters_of (put_items columns width l p.word).line) k.nonblank (k.measured (omega (arith, long))), k.fits);
        measured = k.measured (omega (arith, long));
        columns_are = k.columns_are;
        space = refl;
        word = refl;
        goes = λ text ls g. on text ls (k.goes text ls g);
      }

      go : (b : Bool) → has_character q.laid.line ≡ b →
          LaysText p (let r : Progress A = record q { laid = put_items columns width (if b then end_line q.laid else q.laid) p.word; space = None; word = []; continuation_flag = is_pre q.mode } in r)
      go true e = lays (end_line q.laid) (put_text columns width some p.word (end_line q.laid) [] h.plain refl tt refl (omega (arith, some))) (λ text ls g. ended_first text ls g)
        where
          full : 0 < length (letters_of p.laid.line)
          full = omega (arith, some_letters q.laid.line e, ap length d.line)

          apart : 0 < n
          apart = elim h.apart [ inl none ↦ absurd (omega (arith, full, ap length none)) | inr gap ↦ gap ]

          ended_first : (text : List ℕ) (ls : List (List ℕ)) → ReachesFrom columns width some (end_line q.laid) [] w (put_items columns width (end_line q.laid) p.word) text ls →
              LaysOn p (put_items columns width (end_line q.laid) p.word) text ls
          ended_first text ls g = elim line [
            | inl none ↦ absurd (omega (arith, full, ap length none))
            | inr ends ↦ (
              letters_of p.laid.line ∷ g.all,
              g.are ∙ ap (λ (xs : List (List ℕ)). xs ++ g.all) before ∙ append_assoc (map letters_of p.laid.done) (letters_of p.laid.line ∷ []) g.all,
              from_some width (letters_of p.laid.line) (replicate n 32 ++ (w ++ text)) (letters_of p.laid.line ∷ g.all) full
                  (ended width (letters_of p.laid.line) (replicate n 32 ++ (w ++ text)) g.all ends.0 ends.1
                  (begun width (letters_of p.laid.line) (w ++ text) g.all n g.goes
                  (begins_after width some (letters_of p.laid.line) n w g.goes.more long columns_over apart (λ k wide short. g.reach k wide (omega (arith, short)))))),
            )
          ]
            where
              before : map letters_of (end_line q.laid).done ≡ map letters_of p.laid.done ++ letters_of p.laid.line ∷ []
              before =
                  map-append letters_of q.laid.done (q.laid.line ∷ []) ∙ ap (λ (ds : List (List (Item A))). map letters_of ds ++ letters_of q.laid.line ∷ []) d.done
                  ∙ ap (λ (cs : List ℕ). map letters_of p.laid.done ++ cs ∷ []) d.line
      go false e = lays q.laid (put_text columns width some p.word q.laid [] h.plain (no_letters q.laid.line e) tt (d.empty e) (omega (arith, d.empty e))) (λ text ls g. first text ls g)
        where
          none : letters_of p.laid.line ≡ []
          none = sym d.line ∙ no_letters q.laid.line e

          first : (text : List ℕ) (ls : List (List ℕ)) →
              ReachesFrom columns width some q.laid [] w (put_items columns width q.laid p.word) text ls →
              LaysOn p (put_items columns width q.laid p.word) text ls
          first text ls g = (
            g.all,
            g.are ∙ ap (λ (ds : List (List (Item A))). map letters_of ds ++ g.all) d.done,
            from_none width (letters_of p.laid.line) (replicate n 32 ++ (w ++ text)) g.all none
                (begun width [] (w ++ text) g.all n g.goes
                (first_begins width some n w g.goes.more long (omega (arith, columns_over, ap length none)) (λ k wide short. g.reach k wide (omega (arith, short))))),
          )

  lay_text : (p : Progress A) → IsReadyForWord columns p → IsOpen width (letters_of p.laid.line) → has_character p.word ≡ true → LaysText p (lay columns width p)
  lay_text p h line has =
      cond_both (nat_le (p.laid.width + (pending_width p.space + items_width columns p.word)) width) _ _ (LaysText p) (λ e. here_text p h has (leb-true _ _ e))
      (λ e. fresh_text p (wrap_space columns width p p.space) h line has (leb-false _ _ e) (dropped p h line))

  -- ---- all entries

  -- The lines at the end are those that are done, and then lines on which the text goes on from the open line. The last
  -- line has a character, or there is none and the text is spaces alone.
  record WrapsText (before : Laid A) (text : List ℕ) (l : Laid A) : Type 0 where
    lines : List (List ℕ)
    are : map letters_of (end_if_character l).done ≡ map letters_of before.done ++ lines
    goes : GoesOn width (letters_of before.line) text lines
    last : (IsSpaces text × (letters_of before.line ≡ [])) ⊎ (has_character l.line ≡ true)

  -- the text of a state, with what follows
  abbrev text_ahead : Progress A → List ℕ → List ℕ
  text_ahead p cs = replicate (pending_width p.space) 32 ++ (letters_of p.word ++ cs)

  ended_done : (l : Laid A) → has_character l.line ≡ true → (end_if_character l).done ≡ l.done ++ l.line ∷ []
  ended_done l h = rw h refl

  end_laid : (p : Progress A) → IsReadyForWord columns p → IsOpen width (letters_of p.laid.line) → has_character p.word ≡ true → WrapsText p.laid (text_ahead p []) (lay columns width p).laid
  end_laid p h line has =
      let q : Progress A = lay columns width p in
      let k = lay_text p h line has in
      let last : has_character q.laid.line ≡ true = has_letters q.laid.line k.measured in
      let (all, are, goes) = k.goes [] (letters_of q.laid.line ∷ []) (ended width (letters_of q.laid.line) [] [] k.line.0 k.line.1 tt) in
      record {
        lines = all;
        are = ap (map letters_of) (ended_done q.laid last) ∙ map-append letters_of q.laid.done (q.laid.line ∷ []) ∙ are;
        goes = goes;
        last = inr last;
      }

  end_bare : (p : Progress A) → IsOpen width (letters_of p.laid.line) → has_character p.word ≡ false → WrapsText p.laid (text_ahead p []) p.laid
  end_bare p line none = go (has_character p.laid.line) refl
    where
      text : List ℕ
      text = text_ahead p []

      spaces : IsSpaces text
      spaces = subst (λ (w : List ℕ). IsSpaces (replicate (pending_width p.space) 32 ++ (w ++ []))) (sym (no_letters p.word none)) (spaces_alone (pending_width p.space))

      go : (b : Bool) → has_character p.laid.line ≡ b → WrapsText p.laid text p.laid
      go true e = elim line [
        | inl bare ↦ absurd (omega (arith, some_letters p.laid.line e, ap length bare))
        | inr ends ↦ record {
          lines = letters_of p.laid.line ∷ [];
          are = ap (map letters_of) (ended_done p.laid e) ∙ map-append letters_of p.laid.done (p.laid.line ∷ []);
          goes = from_some width (letters_of p.laid.line) text (letters_of p.laid.line ∷ []) (some_letters p.laid.line e) (ended width (letters_of p.laid.line) text [] ends.0 ends.1 spaces);
          last = inr e;
        }
      ]
      go false e =
          let bare : letters_of p.laid.line ≡ [] = no_letters p.laid.line e in
          record {
            lines = [];
            are = rw e (sym (append-nil (map letters_of p.laid.done)));
            goes = from_none width (letters_of p.laid.line) text [] bare spaces;
            last = inl (spaces, bare);
          }

  -- a space after a word that is laid
  space_laid : (p : Progress A) (a : A) (cs : List ℕ) (l : Laid A) → LaysText p (lay columns width p) →
      (let n : Progress A = record (lay columns width p) { space = space_of (pending_width (lay columns width p).space + 1) a PreWrap } in WrapsText n.laid (text_ahead n cs) l)
      → WrapsText p.laid (text_ahead p (32 ∷ cs)) l
  space_laid p a cs l k rest =
      let q : Progress A = lay columns width p in
      let n : Progress A = record q { space = space_of (pending_width q.space + 1) a PreWrap } in
      let ahead : text_ahead n cs ≡ 32 ∷ cs =
      ap (λ (m : ℕ). replicate m 32 ++ (letters_of q.word ++ cs)) (pending_width-of (pending_width q.space + 1) a PreWrap ∙ ap (λ (o : Option (Space A)). pending_width o + 1) k.space)
      ∙ ap (λ (is : List (Item A)). 32 ∷ (letters_of is ++ cs)) k.word in
      let (all, are, goes) =
      k.goes (32 ∷ cs) rest.lines
      (subst (λ (ds : List ℕ). GoesOnFrom width (letters_of q.laid.line) ds rest.lines) ahead
      (goes_on_some width (letters_of q.laid.line) (text_ahead n cs) rest.lines k.measured rest.goes)) in
      record {
        lines = all;
        are = rest.are ∙ are;
        goes = goes;
        last = elim rest.last [ inl bare ↦ absurd (omega (arith, k.measured, ap length bare.1)) | inr has ↦ inr has ];
      }

  -- a space after others
  space_more : (p : Progress A) (a : A) (cs : List ℕ) (l : Laid A) → has_character p.word ≡ false →
      (let n : Progress A = record p { space = space_of (pending_width p.space + 1) a PreWrap } in WrapsText n.laid (text_ahead n cs) l) → WrapsText p.laid (text_ahead p (32 ∷ cs)) l
  space_more p a cs l none rest = grind (arith, no_letters, ℕ, pending_width-of, one_more_space)

  abbrev end_laid_from : Progress A → List (Event A) → Laid A
  end_laid_from p es = (flush_word columns width (fold (step columns width) p es)).laid

  -- a state after a space, with one more that waits
  abbrev spaced : Progress A → A → Progress A
  spaced q x = record q { space = space_of (pending_width q.space + 1) x PreWrap }

  keeps : (q : Progress A) (x : A) → has_character q.word ≡ false → keep_space 32 x PreWrap (Some 1) q ≡ spaced q x
  keeps q x h = rw h refl

  -- what a space that comes to the second leaves of the first
  abbrev ReadsSpace : List (Event A) → Progress A → A → A → Progress A → Type 0
  ReadsSpace es p a b q = WrapsText p.laid (text_ahead p (32 ∷ entry_letters (run_of es))) (end_laid_from (keep_space 32 (tag_of q a b) PreWrap (Some 1) q) es)

  break_some : (p : Progress A) → 0 < items_width columns p.word → break_word columns width p ≡ lay columns width p
  break_some p takes = rw (lt-ltb _ _ takes) refl

  space_read : (es : List (Event A)) (p : Progress A) (a b : A) → IsReadyForWord columns p → IsOpen width (letters_of p.laid.line) →
      ((n : Progress A) → IsReadyForWord columns n → IsOpen width (letters_of n.laid.line) → WrapsText n.laid (text_ahead n (entry_letters (run_of es))) (end_laid_from n es)) →
      ReadsSpace es p a b (break_word columns width p)
  space_read es p a b h line later = elim (cases_Bool (has_character p.word)) [
    | inl e ↦
        let q : Progress A = lay columns width p in
        let k = lay_text p h line e in
        let n : Progress A = spaced q (tag_of q a b) in
        let plain : Each (IsVisibleOrMarker columns) q.word = subst (Each (IsVisibleOrMarker columns)) (sym k.word) tt in
        let rest = later n (waits columns q (tag_of q a b) plain k.columns_are) (inr k.line) in
        subst (ReadsSpace es p a b) (sym (break_some p (omega (arith, plain_width columns p.word h.plain, some_letters p.word e))))
        (kept q (ap has_character k.word) (space_laid p (tag_of q a b) (entry_letters (run_of es)) (end_laid_from n es) k rest))
    | inr e ↦
        let n : Progress A = spaced p (tag_of p a b) in
        let rest = later n (waits columns p (tag_of p a b) h.plain h.measured) line in
        subst (ReadsSpace es p a b) (sym (not_broken columns width p e)) (kept p e (space_more p (tag_of p a b) (entry_letters (run_of es)) (end_laid_from n es) e rest))
  ]
    where
      kept : (q : Progress A) → has_character q.word ≡ false → WrapsText p.laid (text_ahead p (32 ∷ entry_letters (run_of es))) (end_laid_from (spaced q (tag_of q a b)) es) → ReadsSpace es p a b q
      kept q none k = subst (λ (r : Progress A). WrapsText p.laid (text_ahead p (32 ∷ entry_letters (run_of es))) (end_laid_from r es)) (sym (keeps q (tag_of q a b) none)) k

  wraps_read : (es : List (Event A)) (p : Progress A) → columns 32 ≡ Some 1 → Each (HasMode PreWrap) (run_of es) →
      IsPrintableLine columns (run_of es) → IsReadyForWord columns p → IsOpen width (letters_of p.laid.line) →
      WrapsText p.laid (text_ahead p (entry_letters (run_of es))) (flush_word columns width (fold (step columns width) p es)).laid
  wraps_read [] p one modes printable h line =
      cond_both (has_character p.word) _ _ (λ (q : Progress A). WrapsText p.laid (text_ahead p []) q.laid)
      (λ has. end_laid p h line has) (λ none. end_bare p line none)
  wraps_read (call ∷ es) p one modes printable h line =
      wraps_read es (record p { in_continuation = p.continuation_flag }) one modes printable (record { plain = h.plain; measured = h.measured; apart = h.apart; wraps = h.wraps }) line
  wraps_read (entry (marker_entry name) ∷ es) p one modes printable h line = absurd printable.0
  wraps_read (entry (character c a b mode) ∷ es) p one modes printable h line =
      rw (modes.0) (elim (eqb_tells c 32) [
        | inl w ↦
            subst
            (λ d. WrapsText p.laid (text_ahead p (d ∷ entry_letters (run_of es)))
            (flush_word columns width (fold (step columns width) (enter columns width p (character d a b PreWrap)) es)).laid)
            (sym w.1)
            (subst (λ (r : Progress A). WrapsText p.laid (text_ahead p (32 ∷ entry_letters (run_of es))) (flush_word columns width (fold (step columns width) r es)).laid)
            (sym (preserved_space columns width a b PreWrap (break_word columns width p) one))
            (space_read es p a b h line
            (λ n ready open_line. wraps_read es n one modes.1 printable.1 ready open_line)))
        | inr w ↦
            let v = visible_of columns c printable.0 w.1 in
            let n = join c (tag_of p a b) PreWrap p in
            let k = wraps_read es n one modes.1 printable.1 (join_ready columns p c (tag_of p a b) v h) line in
            let text : letters_of n.word ++ entry_letters (run_of es) ≡ letters_of p.word ++ (c ∷ entry_letters (run_of es)) =
            ap (λ cs. cs ++ entry_letters (run_of es)) (letters_of-append p.word (glyph c (tag_of p a b) ∷ [])) ∙ append_assoc (letters_of p.word) (c ∷ []) (entry_letters (run_of es)) in
            subst
            (λ (r : Progress A). WrapsText p.laid (text_ahead p (c ∷ entry_letters (run_of es)))
            (flush_word columns width (fold (step columns width) r es)).laid)
            (sym (entered_visible columns width c a b PreWrap p (λ e. cc) v))
            (subst (λ (t : List ℕ). WrapsText p.laid (replicate (pending_width p.space) 32 ++ t) (flush_word columns width (fold (step columns width) n es)).laid) text k)
      ])

-- the lines of a hard line, before a newline and at the end of the run
pub wrapped_line : {A : Type 0} (columns : ℕ → Option ℕ) (width : ℕ) → 0 < width → columns 32 ≡ Some 1 →
    (p : Progress A) (es : List (Event A)) → BeginsHardLine p → Each (HasMode PreWrap) (run_of es) →
    IsPrintableLine columns (run_of es) → ¬ (IsSpaces (entry_letters (run_of es))) →
    IsWrapped width [] (entry_letters (run_of es)) (map letters_of (newline (flush_word columns width (fold (step columns width) p es))).laid.done)
    × IsWrapped width [] (entry_letters (run_of es)) (map letters_of (finished columns width (fold (step columns width) p es)).done)
wrapped_line {A} columns width some one p es f modes printable other = (
  subst (λ (ls : List (List (Item A))). IsWrapped width [] (entry_letters (run_of es)) (map letters_of ls)) (ended_done columns width some l last) wraps,
  wraps,
)
  where
    l : Laid A
    l = (flush_word columns width (fold (step columns width) p es)).laid

    bare : letters_of p.laid.line ≡ []
    bare = ap letters_of f.line

    ahead : text_ahead columns width some p (entry_letters (run_of es)) ≡ entry_letters (run_of es)
    ahead =
        ap (λ (o : Option (Space A)). replicate (pending_width o) 32 ++ (letters_of p.word ++ entry_letters (run_of es))) f.space
        ∙ ap (λ (w : List ℕ). w ++ entry_letters (run_of es)) (no_letters p.word f.word)

    k : WrapsText columns width some p.laid (entry_letters (run_of es)) l
    k = subst (λ (cs : List ℕ). WrapsText columns width some p.laid cs l) ahead (wraps_read columns width some es p one modes printable (fresh_ready columns p f) (inl bare))

    last : has_character l.line ≡ true
    last = elim k.last [ inl spaces ↦ absurd (other spaces.0) | inr has ↦ has ]

    wraps : IsWrapped width [] (entry_letters (run_of es)) (map letters_of (end_if_character l).done)
    wraps = subst (IsWrapped width [] (entry_letters (run_of es))) (sym (k.are ∙ ap (λ (ds : List (List (Item A))). map letters_of ds ++ k.lines) f.done))
        (subst (λ (cs : List ℕ). GoesOn width cs (entry_letters (run_of es)) k.lines) bare k.goes)
