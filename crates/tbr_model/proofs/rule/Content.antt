-- What is found in a run's items, for any way to look at them that passes over characters that aren't kept. The rule
-- keeps it, in order.
use Rattle.tbr_model.proofs.Common.{◌≡◌, ℕ, ◌⊎◌, inl, true, false, List, Option, [], ◌∷◌, ◌++◌, fold, refl, ap, sym, ◌∙◌, append_assoc, append-nil, Bool, filter, arith, is_whitespace, AllZip, Each}
use Rattle.tbr_model.proofs.Common.{eqb-true, WhiteSpace, Pre, PreWrap, Entry, character, marker_entry, Item, glyph, marker, item_width, has_character, is_kept, joined, Laid, nothing_laid, extended}
use Rattle.tbr_model.proofs.Common.{end_line, Event, run_of, Progress, is_space_item, is_white_item, without_trailing, trimmed, is_pre, flush_word, newline, step, progress, finished, waiting}
use Rattle.tbr_model.proofs.Common.{lines_of, filter-append}
use Rattle.tbr_model.proofs.rule.LaidText.{text, text-extended, text-end_line, trailing_cases}
use Rattle.tbr_model.proofs.rule.HardLineStart.{BeginsHardLine}
use Rattle.tbr_model.proofs.rule.HardLines.{no_character_after_end, flush_flushes}
use Rattle.tbr_model.proofs.rule.Walk.{KeptByRule, word_flushed, line_ended, run_ended, walked, run_walked}
use Rattle.tbr_model.proofs.words.Items.{break_lost}

-- ---- ways to look at items

-- It looks at one item after another, and finds nothing in a character that isn't kept. Where `PreWrap` is among the
-- modes of the run, it finds nothing in white space.
pub record LooksAtKept {A X : Type 0} (columns : ℕ → Option ℕ) (Comes : Entry A → Type 0) (Modes : WhiteSpace → Type 0) (found : List (Item A) → List X) : Type 0 where
  pub modes : (c : ℕ) (a b : A) (m : WhiteSpace) → Comes (character c a b m) → Modes m
  pub append : (is js : List (Item A)) → found (is ++ js) ≡ found is ++ found js
  pub nothing : found [] ≡ []
  pub lost : (c : ℕ) (a : A) → is_kept columns c ≡ false → found (glyph c a ∷ []) ≡ []
  pub white : Modes PreWrap → (c : ℕ) (a : A) → is_whitespace c ≡ true → found (glyph c a ∷ []) ≡ []

abbrev pub AnyEntry : {A : Type 0} → Entry A → Type 0
AnyEntry e = Unit {0}

abbrev pub AnyMode : WhiteSpace → Type 0
AnyMode m = Unit {0}

-- An item stands for an entry: a character under its annotation, in `Pre` also under the continuation annotation, or a
-- marker.
abbrev pub StandsFor : {A : Type 0} → (WhiteSpace → Type 0) → Item A → Entry A → Type 0
StandsFor Modes (glyph c x) (character d a b m) = (c ≡ d) × ((x ≡ a) ⊎ ((x ≡ b) × Modes Pre))
StandsFor Modes (glyph c x) (marker_entry name) = ⊥
StandsFor Modes (marker name) (character d a b m) = ⊥
StandsFor Modes (marker name) (marker_entry other) = name ≡ other

-- what holds of no items, and of one more that stands for an entry
module _ {A : Type 0} (Modes : WhiteSpace → Type 0) (P : List (Item A) → List (Entry A) → Type 0) (none : P [] [])
    (one : (c : ℕ) (x a b : A) (m : WhiteSpace) (is : List (Item A)) (es : List (Entry A)) → (x ≡ a) ⊎ ((x ≡ b) × Modes Pre) → P is es → P (glyph c x ∷ is) (character c a b m ∷ es))
    (mark : (name : List ℕ) (is : List (Item A)) (es : List (Entry A)) → P is es → P (marker name ∷ is) (marker_entry name ∷ es)) where
  pub by_entry : (is : List (Item A)) (es : List (Entry A)) → AllZip (StandsFor Modes) is es → P is es
  by_entry [] [] h = none
  by_entry [] (e ∷ es) h = elim h [ ]
  by_entry (i ∷ is) [] h = elim h [ ]
  by_entry (glyph c x ∷ is) (character d a b m ∷ es) h = rw (h.0.0) (one d x a b m is es h.0.1 (by_entry is es h.1))
  by_entry (glyph c x ∷ is) (marker_entry name ∷ es) h = elim h.0 [ ]
  by_entry (marker name ∷ is) (character d a b m ∷ es) h = elim h.0 [ ]
  by_entry (marker name ∷ is) (marker_entry other ∷ es) h = rw (h.0) (mark other is es (by_entry is es h.1))

-- What is found is found in items that stand for the run's entries, one for each.
pub record FoundIn {A X : Type 0} (Modes : WhiteSpace → Type 0) (found : List (Item A) → List X) (run : List (Entry A)) (xs : List X) : Type 0 where
  pub items : List (Item A)
  pub stand : AllZip (StandsFor Modes) items run
  pub are : xs ≡ found items

module _ {A X : Type 0} {columns : ℕ → Option ℕ} {Comes : Entry A → Type 0} {Modes : WhiteSpace → Type 0} {found : List (Item A) → List X} (looks : LooksAtKept columns Comes Modes found) where
  space_lost : (a : A) → found (glyph 32 a ∷ []) ≡ []
  space_lost a = looks.lost 32 a (break_lost columns 32 refl)

  lost_first : (i : Item A) (is : List (Item A)) → found (i ∷ []) ≡ [] → found (i ∷ is) ≡ found is
  lost_first i is h = looks.append (i ∷ []) is ∙ ap (λ xs. xs ++ found is) h

  white_first : Modes PreWrap → (i : Item A) (is : List (Item A)) → is_white_item i ≡ true → found (i ∷ is) ≡ found is
  white_first wraps (glyph c a) is h = lost_first (glyph c a) is (looks.white wraps c a h)
  white_first wraps (marker name) is h = cc

  space_first : (i : Item A) (is : List (Item A)) → is_space_item i ≡ true → found (i ∷ is) ≡ found is
  space_first (glyph c a) is h = let e : c ≡ 32 = eqb-true c 32 h in lost_first (glyph c a) is (rw e (space_lost a))
  space_first (marker name) is h = cc

  trailing_same : (is : List (Item A)) → found (without_trailing is) ≡ found is
  trailing_same =
      trailing_cases (λ is js. found js ≡ found is) refl
      (λ i is js h. looks.append (i ∷ []) js ∙ ap (λ xs. found (i ∷ []) ++ xs) h ∙ sym (looks.append (i ∷ []) is)) (λ i is s h. h ∙ sym (space_first i is s))

  -- ---- what is found on the lines that are done and the open one, and in the word

  abbrev in_all : Laid A → List (Item A) → List X
  in_all l w = found (text l) ++ found w

  abbrev Found : List (Entry A) → Laid A → List (Item A) → Type 0
  Found es l w = FoundIn Modes found es (in_all l w)

  again : (es : List (Entry A)) (xs ys : List X) → ys ≡ xs → FoundIn Modes found es xs → FoundIn Modes found es ys
  again es xs ys e f = record { items = f.items; stand = f.stand; are = e ∙ f.are }

  stand_push : (is : List (Item A)) (es : List (Entry A)) (i : Item A) (e : Entry A) → AllZip (StandsFor Modes) is es → StandsFor Modes i e → AllZip (StandsFor Modes) (is ++ i ∷ []) (es ++ e ∷ [])
  stand_push [] [] i e h s = (s, tt)
  stand_push [] (d ∷ es) i e h s = elim h [ ]
  stand_push (j ∷ is) [] i e h s = elim h [ ]
  stand_push (j ∷ is) (d ∷ es) i e h s = (h.0, stand_push is es i e h.1 s)

  -- one more entry has come
  more : (es : List (Entry A)) (xs ys : List X) (i : Item A) (e : Entry A) → StandsFor Modes i e → ys ≡ xs ++ found (i ∷ []) → FoundIn Modes found es xs → FoundIn Modes found (es ++ e ∷ []) ys
  more es xs ys i e s is f = grind (arith, stand_push)

  item_moved : (l : Laid A) (n : ℕ) (i : Item A) (w : List (Item A)) → in_all (extended l (i ∷ []) n) w ≡ in_all l (i ∷ w)
  item_moved l n i w = grind (arith, text-extended, text, append_assoc)

  line_same : (l : Laid A) (w : List (Item A)) → in_all (end_line l) w ≡ in_all l w
  line_same l w = ap (λ is. found is ++ found w) (text-end_line l)

  trimmed_same : (l : Laid A) (w : List (Item A)) → in_all (trimmed columns l) w ≡ in_all l w
  trimmed_same l w = grind (arith, trailing_same)

  item_joins : (l : Laid A) (w : List (Item A)) (i : Item A) → in_all l (w ++ i ∷ []) ≡ in_all l w ++ found (i ∷ [])
  item_joins l w i = ap (λ xs. found (text l) ++ xs) (looks.append w (i ∷ [])) ∙ sym (append_assoc (found (text l)) (found w) (found (i ∷ [])))

  finds : (width : ℕ) → KeptByRule columns width Comes (λ a. Unit {0}) Modes ⊥ Found
  finds width = record {
    tags = λ c a b m h. (tt, tt, looks.modes c a b m h);
    some = λ none. absurd none;
    bare = λ none es l w r h. absurd none;
    item = λ es l i w _ r. again es _ _ (item_moved l (item_width columns i) i w) r;
    wide = λ es l i w _ _ r. again es _ _ (line_same (extended l (i ∷ []) (item_width columns i)) w ∙ item_moved l (item_width columns i) i w) r;
    space = λ es l w a _ h r. again es _ _ (item_moved l 1 (glyph 32 a) w ∙ ap (λ xs. found (text l) ++ xs) (lost_first (glyph 32 a) w (space_lost a))) r;
    ended = λ es l w r. again es _ _ (line_same l w) r;
    trims = λ _ es l w r. again es _ _ (trimmed_same l w) r;
    white = λ wraps es l i w e r. again es _ _ (ap (λ xs. found (text l) ++ xs) (sym (white_first wraps i w e))) r;
    joins = λ es l w c a b m x h either may r. more es _ _ (glyph c x) (character c a b m) (refl, either) (item_joins l w (glyph c x)) r;
    marks = λ es l w name h r. more es _ _ (marker name) (marker_entry name) refl (item_joins l w (marker name)) r;
    lost = λ es l w c a b m gone r. more es _ _ (glyph c a) (character c a b m) (refl, inl refl) (sym (append-nil (in_all l w)) ∙ ap (λ xs. in_all l w ++ xs) (sym (looks.lost c a gone))) r;
  }

  -- ---- a run

  begun : Found [] nothing_laid []
  begun = record { items = []; stand = tt; are = ap (λ xs. xs ++ found []) looks.nothing }

  -- under way
  pub found_under_way : (width : ℕ) (es : List (Event A)) → Each Comes (run_of es) → Found (run_of es) (progress columns width es).laid (progress columns width es).word
  found_under_way width es comes = (run_walked (finds width) es begun comes).laid

  -- where the run ends, on its lines and in what waits
  pub found_at_end : (width : ℕ) (es : List (Event A)) → Each Comes (run_of es) →
      FoundIn Modes found (run_of es)
      (found (joined (lines_of columns width es) ++ waiting columns width (progress columns width es)))
  found_at_end width es comes =
      let p : Progress A = progress columns width es in
      let l : Laid A = finished columns width p in
      let w : List (Item A) = (flush_word columns width p).word in
      again (run_of es) (in_all l w) _
      (ap found (sym (append_assoc (joined l.done) l.line w)) ∙ looks.append (text l) w)
      (run_ended (finds width) (run_of es) p (run_walked (finds width) es begun comes))

  -- ---- where nothing is found in markers

  module _ (alone : (is : List (Item A)) → has_character is ≡ false → found is ≡ []) where
    -- the ended lines have all, where neither the open line nor the word has a character
    lines_alone : (es : List (Entry A)) (l : Laid A) (w : List (Item A)) → has_character l.line ≡ false → has_character w ≡ false → Found es l w → FoundIn Modes found es (found (joined l.done))
    lines_alone es l w line none f = grind (arith, again, text, append-nil)

    -- from where a hard line begins: before a newline, and at the end of the run
    pub found_from : (width : ℕ) (p : Progress A) (es : List (Event A)) → BeginsHardLine p → (is_pre p.mode ≡ true → Modes Pre) → Each Comes (run_of es) →
        let q = fold (step columns width) p es in
        FoundIn Modes found (run_of es) (found (joined (newline (flush_word columns width q)).laid.done)) × FoundIn Modes found (run_of es) (found (joined (finished columns width q).done))
    found_from width p es f pre comes =
        let q : Progress A = fold (step columns width) p es in
        let r : Progress A = flush_word columns width q in
        let none : Found [] p.laid p.word = record { items = []; stand = tt; are = rw (f.done, f.line) (ap (λ xs. xs ++ found p.word) looks.nothing ∙ alone p.word f.word ∙ sym looks.nothing) } in
        let s = walked (finds width) es [] p comes (record { laid = none; space = rw (f.space) tt; flags = (pre, (λ e. cc), (λ e. cc)) }) in (
          lines_alone (run_of es) (newline r).laid r.word refl (flush_flushes columns width q) (line_ended (finds width) (run_of es) r (word_flushed (finds width) (run_of es) q s)).laid,
          lines_alone (run_of es) (finished columns width q) r.word (no_character_after_end r.laid) (flush_flushes columns width q) (run_ended (finds width) (run_of es) q s),
        )

-- a marker, or a character that passes the test
abbrev pub item_passes : {A : Type 0} → (ℕ → Bool) → Item A → Bool
item_passes test (glyph c a) = test c
item_passes test (marker name) = true

abbrev pub passing : {A : Type 0} → (ℕ → Bool) → List (Item A) → List (Item A)
passing test is = filter (item_passes test) is

pub passing-append : {A : Type 0} (test : ℕ → Bool) (is js : List (Item A)) → passing test (is ++ js) ≡ passing test is ++ passing test js
passing-append test is js = filter-append (item_passes test) is js

pub looks_at_passing : {A : Type 0} (columns : ℕ → Option ℕ) (Comes : Entry A → Type 0) (Modes : WhiteSpace → Type 0)
    (test : ℕ → Bool) → ((c : ℕ) (a b : A) (m : WhiteSpace) → Comes (character c a b m) → Modes m) →
    ((c : ℕ) → is_kept columns c ≡ false → test c ≡ false) → (Modes PreWrap → (c : ℕ) → is_whitespace c ≡ true → test c ≡ false) → LooksAtKept columns Comes Modes (passing test)
looks_at_passing columns Comes Modes test modes lost white = record {
  modes = modes;
  append = passing-append test;
  nothing = refl;
  lost = λ c a h. rw (lost c h) refl;
  white = λ m c a h. rw (white m c h) refl;
}

-- items that have no character all pass
pub markers_pass : {A : Type 0} (test : ℕ → Bool) (is : List (Item A)) → has_character is ≡ false → passing test is ≡ is
markers_pass test [] h = refl
markers_pass test (glyph c a ∷ is) h = cc
markers_pass test (marker name ∷ is) h = ap (λ js. marker name ∷ js) (markers_pass test is h)
