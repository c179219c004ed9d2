-- The annotations of a hard line of Pre: the main one up to the width, the continuation's after it.
use Rattle.tbr_model.proofs.Common.{◌≡◌, ◌≢◌, ℕ, zero, suc, ◌+◌, ◌<◌, ◌≤◌, if◌then◌else◌, Bool, true, false, Option, Some, None, List, [], ◌∷◌, ◌++◌, map, fold, length, take, drop, refl, ap, sym, ◌∙◌}
use Rattle.tbr_model.proofs.Common.{arith, append_assoc, append-nil, subst, add-one, ltb-true, ltb-false, inl, inr, Each, cond_both, eqb_tells, WhiteSpace, Pre, Entry, character, marker_entry, Item}
use Rattle.tbr_model.proofs.Common.{glyph, items_width, has_character, Event, call, entry, run_of, Progress, pending_width, keep_space, keep_character, passes, tag_of, enter, step, HasMode, glyphs_of}
use Rattle.tbr_model.proofs.Common.{entry_letters, IsPrintable, IsPrintableEntry, BeginsWithNonBlank, StandUnder, HasMain, HasContinuation}
use Rattle.tbr_model.proofs.rule.Printable.{preserved_space, preserved_visible, visible_of}
use Rattle.tbr_model.proofs.words.Items.{items_width-append, glyphs_of-append, no_glyphs, back_has}
use Rattle.tbr_model.proofs.rule.HardLineStart.{BeginsHardLine}
use Rattle.tbr_model.proofs.pre.WaitingWord.{unit_markers, units_width}

-- ---- annotations, place by place

-- from the k-th place on
abbrev pub IsTagged : {A : Type 0} → (A → A → Type 0) → ℕ → ℕ → List (ℕ × A) → List (Entry A) → Type 0
IsTagged Same width k [] [] = Unit {0}
IsTagged Same width k [] (e ∷ es) = ⊥
IsTagged Same width k (g ∷ gs) [] = ⊥
IsTagged Same width k (g ∷ gs) (e ∷ es) = (g.0 ≢ 32 → (k < width → HasMain Same e g.1) × (width ≤ k → HasContinuation Same e g.1)) × IsTagged Same width (suc k) gs es

pub tagged_main : {A : Type 0} (Same : A → A → Type 0) (width k m : ℕ) (gs : List (ℕ × A)) (es : List (Entry A)) →
    k + m ≡ width → IsTagged Same width k gs es → StandUnder (HasMain Same) (take m gs) (take m es)
tagged_main Same width k zero gs es sum h = tt
tagged_main Same width k (suc m) [] [] sum h = tt
tagged_main Same width k (suc m) [] (e ∷ es) sum h = absurd h
tagged_main Same width k (suc m) (g ∷ gs) [] sum h = absurd h
tagged_main Same width k (suc m) (g ∷ gs) (e ∷ es) sum h = (λ other. (h.0 other).0 (omega arith), tagged_main Same width (suc k) m gs es (omega arith) h.1)

tagged_after : {A : Type 0} (Same : A → A → Type 0) (width k : ℕ) (gs : List (ℕ × A)) (es : List (Entry A)) → width ≤ k → IsTagged Same width k gs es → StandUnder (HasContinuation Same) gs es
tagged_after Same width k [] [] past h = tt
tagged_after Same width k [] (e ∷ es) past h = absurd h
tagged_after Same width k (g ∷ gs) [] past h = absurd h
tagged_after Same width k (g ∷ gs) (e ∷ es) past h = (λ other. (h.0 other).1 past, tagged_after Same width (suc k) gs es (omega arith) h.1)

pub tagged_continuation : {A : Type 0} (Same : A → A → Type 0) (width k m : ℕ) (gs : List (ℕ × A)) (es : List (Entry A))
    → k + m ≡ width → IsTagged Same width k gs es → StandUnder (HasContinuation Same) (drop m gs) (drop m es)
tagged_continuation Same width k zero gs es sum h = tagged_after Same width k gs es (omega arith) h
tagged_continuation Same width k (suc m) [] [] sum h = tt
tagged_continuation Same width k (suc m) [] (e ∷ es) sum h = absurd h
tagged_continuation Same width k (suc m) (g ∷ gs) [] sum h = absurd h
tagged_continuation Same width k (suc m) (g ∷ gs) (e ∷ es) sum h = tagged_continuation Same width (suc k) m gs es (omega arith) h.1

-- ---- a hard line that begins with a non-blank

-- nothing pends in front of the word, and these characters come next
record HasBegunWord {A : Type 0} (columns : ℕ → Option ℕ) (width : ℕ) (q : Progress A) (cs : List ℕ) : Type 0 where
  space : q.space ≡ None
  empty : q.laid.width ≡ 0
  begins : has_character q.word ≡ false → BeginsWithNonBlank cs
  first : items_width columns q.word < width → (q.in_continuation ≡ false) × (q.continuation_flag ≡ false)

-- the second's word has these entries more
record AddsTagged {A : Type 0} (columns : ℕ → Option ℕ) (Same : A → A → Type 0) (width : ℕ) (q r : Progress A) (es : List (Entry A)) : Type 0 where
  more : List (ℕ × A)
  glyphs : glyphs_of r.word ≡ glyphs_of q.word ++ more
  tagged : IsTagged Same width (items_width columns q.word) more es
  space : r.space ≡ None

joined_width : {A : Type 0} (columns : ℕ → Option ℕ) (is : List (Item A)) (c : ℕ) (x : A) → columns c ≡ Some 1 → items_width columns (is ++ glyph c x ∷ []) ≡ items_width columns is + 1
joined_width columns is c x one = grind (arith, items_width-append)

module _ {A : Type 0} (columns : ℕ → Option ℕ) (Same : A → A → Type 0) (width : ℕ) (reflexive : (x : A) → Same x x) (one_space : columns 32 ≡ Some 1) where
  -- a character has joined the word, and the rest goes on
  joined_tags : (q : Progress A) (c : ℕ) (a b x : A) (m : WhiteSpace) (continuation_flag in_continuation : Bool) (es : List (Event A)) →
      let s : Progress A = record { laid = q.laid; space = q.space; word = q.word ++ glyph c x ∷ []; mode = m; continuation_flag = continuation_flag; in_continuation = in_continuation } in
      HasBegunWord columns width q (c ∷ entry_letters (run_of es)) → columns c ≡ Some 1 →
      (c ≢ 32 → (items_width columns q.word < width → HasMain Same (character c a b Pre) x) × (width ≤ items_width columns q.word → HasContinuation Same (character c a b Pre) x)) →
      (items_width columns q.word + 1 < width → (in_continuation ≡ false) × (continuation_flag ≡ false)) →
      (HasBegunWord columns width s (entry_letters (run_of es)) → AddsTagged columns Same width s (fold (step columns width) s es) (run_of es)) →
      AddsTagged columns Same width q (fold (step columns width) s es) (character c a b Pre ∷ run_of es)
  joined_tags q c a b x m continuation_flag in_continuation es h one has first rest = after (rest begun)
    where
      s : Progress A
      s = record { laid = q.laid; space = q.space; word = q.word ++ glyph c x ∷ []; mode = m; continuation_flag = continuation_flag; in_continuation = in_continuation }

      wider : items_width columns (q.word ++ glyph c x ∷ []) ≡ items_width columns q.word + 1
      wider = joined_width columns q.word c x one

      begun : HasBegunWord columns width s (entry_letters (run_of es))
      begun = record {
        space = h.space;
        empty = h.empty;
        begins = λ none. (let some : has_character (q.word ++ glyph c x ∷ []) ≡ true = back_has q.word (glyph c x ∷ []) refl in cc);
        first = λ less. first (omega (arith, less, wider));
      }

      after : AddsTagged columns Same width s (fold (step columns width) s es) (run_of es) → AddsTagged columns Same width q (fold (step columns width) s es) (character c a b Pre ∷ run_of es)
      after t = record {
        more = (c, x) ∷ t.more;
        glyphs = t.glyphs ∙ ap (λ gs. gs ++ t.more) (glyphs_of-append q.word (glyph c x ∷ [])) ∙ append_assoc (glyphs_of q.word) ((c, x) ∷ []) t.more;
        tagged = (has, subst (λ (n : ℕ). IsTagged Same width n t.more (run_of es)) (wider ∙ add-one (items_width columns q.word)) t.tagged);
        space = t.space;
      }

  character_tags : (c : ℕ) (a b : A) (es : List (Event A)) (q : Progress A) → IsPrintable columns c → HasBegunWord columns width q (c ∷ entry_letters (run_of es)) →
      ((s : Progress A) → HasBegunWord columns width s (entry_letters (run_of es)) → AddsTagged columns Same width s (fold (step columns width) s es) (run_of es)) →
      AddsTagged columns Same width q (fold (step columns width) (enter columns width q (character c a b Pre)) es) (character c a b Pre ∷ run_of es)
  character_tags c a b es q printable h rest = elim (eqb_tells c 32) [
    | inl w ↦ subst Holds
        (subst (λ (d : ℕ). keep_space d (tag_of q a b) Pre (Some 1) q ≡ enter columns width q (character d a b Pre))
        (sym w.1) (sym (preserved_space columns width a b Pre q one_space))) (spaced w.1)
    | inr w ↦ subst Holds (sym (preserved_visible columns width c a b Pre q (visible_of columns c printable w.1))) visible
  ]
    where
      Holds : Progress A → Type 0
      Holds s = AddsTagged columns Same width q (fold (step columns width) s es) (character c a b Pre ∷ run_of es)

      spaced : c ≡ 32 → Holds (keep_space c (tag_of q a b) Pre (Some 1) q)
      spaced same =
          cond_both (has_character q.word) _ _ Holds
          (λ some. joined_tags q c a b (tag_of q a b) (if has_character q.word then q.mode else Pre) q.continuation_flag
          q.in_continuation es h printable.2 (λ other. absurd (other same)) (λ less. h.first (omega arith))
          (rest _))
          (λ none. absurd (h.begins none same))

      visible : Holds (keep_character columns width c a b Pre (Some 1) q)
      visible =
          let columns_before : pending_width q.space ≡ 0 = ap pending_width h.space in
          cond_both (passes columns width 1 q) _ _ Holds
          (λ past.
          let after : width ≤ items_width columns q.word = omega (arith, ltb-true _ _ past, h.empty, columns_before) in
          joined_tags q c a b b (if has_character q.word then q.mode else Pre) true true es h printable.2
          (λ _. (λ less. absurd (omega (arith, less, after)), λ _. reflexive b))
          (λ less. absurd (omega (arith, less, after)))
          (rest _))
          (λ within.
          let before : items_width columns q.word < width = omega (arith, ltb-false _ _ within, h.empty, columns_before) in
          let tag : tag_of q a b ≡ a = rw ((h.first before).0) refl in
          joined_tags q c a b (tag_of q a b) (if has_character q.word then q.mode else Pre) q.continuation_flag q.in_continuation es h printable.2
          (λ _. (λ _. subst (λ (y : A). Same y a) (sym tag) (reflexive a), λ past. absurd (omega (arith, past, before)))) (λ less. h.first before)
          (rest _))

  line_tags : (es : List (Event A)) (q : Progress A) → HasBegunWord columns width q (entry_letters (run_of es)) → Each (HasMode Pre) (run_of es) → Each (IsPrintableEntry columns) (run_of es) →
      AddsTagged columns Same width q (fold (step columns width) q es) (run_of es)
  line_tags [] q h pre printable = record { more = []; glyphs = sym (append-nil (glyphs_of q.word)); tagged = tt; space = h.space }
  line_tags (call ∷ es) q h pre printable =
      let s : Progress A = record q { in_continuation = q.continuation_flag } in
      let begun : HasBegunWord columns width s (entry_letters (run_of es)) = record { space = h.space; empty = h.empty; begins = h.begins; first = λ less. (let f = h.first less in (f.1, f.1)) } in
      let t = line_tags es s begun pre printable in
      record { more = t.more; glyphs = t.glyphs; tagged = t.tagged; space = t.space }
  line_tags (entry (marker_entry name) ∷ es) q h pre printable = absurd printable.0
  line_tags (entry (character c a b m) ∷ es) q h pre printable =
      rw (pre.0) (character_tags c a b es q printable.0 h (λ s begun. line_tags es s begun pre.1 printable.1))

  -- the word of a hard line that begins with a non-blank
  pub pre_tags : (p : Progress A) (es : List (Event A)) → BeginsHardLine p → Each (HasMode Pre) (run_of es) →
      Each (IsPrintableEntry columns) (run_of es) → BeginsWithNonBlank (entry_letters (run_of es)) →
      let q = fold (step columns width) p es in
      IsTagged Same width 0 (glyphs_of q.word) (run_of es) × (q.space ≡ None)
  pre_tags p es f pre printable begins =
      let t = line_tags es p (record { space = f.space; empty = f.width; begins = λ _. begins; first = λ _. (f.in_continuation, f.continuation_flag) }) pre printable in
      let empty : glyphs_of p.word ≡ [] = no_glyphs p.word f.word in
      let glyphs : glyphs_of (fold (step columns width) p es).word ≡ t.more = t.glyphs ∙ ap (λ gs. gs ++ t.more) empty in
      let start : items_width columns p.word ≡ 0 = units_width columns p.word (unit_markers columns p.word f.word) ∙ ap (λ gs. length (map (λ g. g.0) gs)) empty in
      (rw glyphs (subst (λ (n : ℕ). IsTagged Same width n t.more (run_of es)) start t.tagged), t.space)
