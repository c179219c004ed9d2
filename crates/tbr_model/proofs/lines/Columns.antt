-- Where a visible character that takes columns came, a line has ended, or the open line or the word takes columns.
use Rattle.tbr_model.proofs.Common.{◌≡◌, ℕ, ◌<◌, inl, inr, ◌||◌, nat_lt, append_assoc, Bool, true, false, not, Option, List, [], ◌∷◌, ◌++◌, length, refl, ap, sym, ◌∙◌, arith, list_any, AllZip}
use Rattle.tbr_model.proofs.Common.{is_whitespace, cases_lt, cases_Bool, and_left, and_right, not_from_true, le-ltb, list_any-append, Entry, Item, glyph, marker, item_width, items_width, is_kept}
use Rattle.tbr_model.proofs.Common.{joined, Laid, extended, Event, run_of, Progress, without_trailing, progress, is_visible, letters_of}
use Rattle.std.proofs.Common.{unwrap_or}
use Rattle.std.proofs.lemmas.Bool.{or_cases, or_from}
use Rattle.tbr_model.specs.Shown.{shows_columns, run_shows_columns, HasColumns}
use Rattle.tbr_model.proofs.words.Items.{letters_of-append}
use Rattle.tbr_model.proofs.rule.Content.{LooksAtKept, AnyEntry, AnyMode, StandsFor, by_entry, found_under_way, passing, passing-append, looks_at_passing}
use Rattle.tbr_model.proofs.rule.LaidText.{text}
use Rattle.tbr_model.proofs.rule.Walk.{KeptByRule, any_entries, run_walked}

module _ {A : Type 0} (columns : ℕ → Option ℕ) where
  -- the visible characters of items that take columns, and the markers
  abbrev shown : List (Item A) → List (Item A)
  shown is = passing (shows_columns columns) is

  looks_at_shown : LooksAtKept {A = A} columns AnyEntry AnyMode shown
  looks_at_shown =
      looks_at_passing columns AnyEntry AnyMode (shows_columns columns) (λ c a b m h. tt)
      (λ c h. and_left (is_visible columns c) (nat_lt 0 (unwrap_or (columns c) 0)) (and_left (is_kept columns c) (not (is_whitespace c)) h))
      (λ m c h. and_left (is_visible columns c) (nat_lt 0 (unwrap_or (columns c) 0)) (and_right (is_kept columns c) (not (is_whitespace c)) (not_from_true (is_whitespace c) h)))

  -- one of the characters takes columns
  abbrev some_shown : List (Item A) → Bool
  some_shown is = list_any (shows_columns columns) (letters_of is)

  some_shown-append : (is js : List (Item A)) → some_shown (is ++ js) ≡ some_shown is || some_shown js
  some_shown-append is js = ap (list_any (shows_columns columns)) (letters_of-append is js) ∙ list_any-append (shows_columns columns) (letters_of is) (letters_of js)

  -- items that take no columns show none
  none_shown : (is : List (Item A)) → items_width columns is ≡ 0 → some_shown is ≡ false
  none_shown [] h = refl
  none_shown (marker name ∷ is) h = none_shown is (omega (arith, h))
  none_shown (glyph c a ∷ is) h = grind (arith, le-ltb, or_from, and_right, none_shown is (omega (arith, h)))

  -- an open line of no columns shows none
  abbrev OpenSo : Laid A → Type 0
  OpenSo l = l.width ≡ 0 → some_shown l.line ≡ false

  extended_so : (l : Laid A) (is : List (Item A)) (n : ℕ) → (n ≡ 0 → some_shown is ≡ false) → OpenSo l → OpenSo (extended l is n)
  extended_so l is n h r e = some_shown-append l.line is ∙ or_from (some_shown l.line) (some_shown is) (r (omega (arith, e))) (h (omega (arith, e)))

  open_so : (width : ℕ) → KeptByRule {A = A} columns width (λ e. Unit {0}) (λ a. Unit {0}) (λ m. Unit {0}) ⊥ (λ es l w. OpenSo l)
  open_so width = record {
    tags = λ c a b m h. (tt, tt, tt);
    some = λ none. absurd none;
    bare = λ none es l w r h. absurd none;
    item = λ es l i w _ r. extended_so l (i ∷ []) (item_width columns i) (λ e. none_shown (i ∷ []) (omega (arith, e))) r;
    wide = λ es l i w _ _ r e. refl;
    space = λ es l w a _ h r. extended_so l (glyph 32 a ∷ []) 1 (λ e. absurd (omega (arith, e))) r;
    ended = λ es l w r e. refl;
    trims = λ _ es l w r e. none_shown (without_trailing l.line) e;
    white = λ _ es l i w _ r. r;
    joins = λ es l w c a b m x h either may r. r;
    marks = λ es l w name h r. r;
    lost = λ es l w c a b m _ r. r;
  }

  -- ---- a run

  -- what doesn't pass doesn't count
  some_passing : (is : List (Item A)) → some_shown (shown is) ≡ some_shown is
  some_passing [] = refl
  some_passing (marker name ∷ is) = some_passing is
  some_passing (glyph c a ∷ is) = elim (cases_Bool (shows_columns columns c)) [ inl e ↦ rw (e, e) refl | inr e ↦ rw e (some_passing is) ]

  some_alike : (is : List (Item A)) (es : List (Entry A)) → AllZip (StandsFor AnyMode) is es → some_shown is ≡ run_shows_columns columns es
  some_alike =
      by_entry AnyMode (λ is es. some_shown is ≡ run_shows_columns columns es) refl (λ c x a b m is es either rest. ap (λ (b : Bool). shows_columns columns c || b) rest) (λ name is es rest. rest)

  -- lines, the open line and the word show some columns where the run does
  shown_where : (width : ℕ) (es : List (Event A)) → let p = progress columns width es in some_shown (joined p.laid.done ++ (p.laid.line ++ p.word)) ≡ run_shows_columns columns (run_of es)
  shown_where width es =
      let p : Progress A = progress columns width es in
      let g = found_under_way looks_at_shown width es (any_entries (run_of es)) in
      let all : shown (joined p.laid.done ++ (p.laid.line ++ p.word)) ≡ shown g.items =
      ap shown (sym (append_assoc (joined p.laid.done) p.laid.line p.word)) ∙ passing-append (shows_columns columns) (text p.laid) p.word ∙ g.are in
      sym (some_passing (joined p.laid.done ++ (p.laid.line ++ p.word))) ∙ ap some_shown all ∙ some_passing g.items ∙ some_alike g.items (run_of es) g.stand

  some_line : (ls : List (List (Item A))) → some_shown (joined ls) ≡ true → 0 < length ls
  some_line [] h = cc
  some_line (l ∷ ls) h = omega arith

  pub columns_show : (width : ℕ) (es : List (Event A)) → run_shows_columns columns (run_of es) ≡ true → HasColumns columns (progress columns width es)
  columns_show width es h =
      elim (or_cases (some_shown (joined p.laid.done)) (some_shown (p.laid.line ++ p.word)) (sym (some_shown-append (joined p.laid.done) (p.laid.line ++ p.word)) ∙ shown_where width es ∙ h)) [
        | inl done ↦ inl (some_line p.laid.done done)
        | inr other ↦ elim
            (or_cases (some_shown p.laid.line) (some_shown p.word) (sym (some_shown-append p.laid.line p.word) ∙ other))
            [ inl some ↦ inr (inl (on_line some)) | inr some ↦ inr (inr (in_word some)) ]
      ]
    where
      p : Progress A
      p = progress columns width es

      on_line : some_shown p.laid.line ≡ true → 0 < p.laid.width
      on_line some = elim (cases_lt 0 p.laid.width) [
        | inl more ↦ more
        | inr none ↦ absurd (let hides : some_shown p.laid.line ≡ false = (run_walked (open_so width) es (λ e. refl) (any_entries (run_of es))).laid (omega (arith, none)) in cc)
      ]

      in_word : some_shown p.word ≡ true → 0 < items_width columns p.word
      in_word some = elim (cases_lt 0 (items_width columns p.word)) [ inl more ↦ more | inr none ↦ absurd (let hides : some_shown p.word ≡ false = none_shown p.word (omega (arith, none)) in cc) ]
