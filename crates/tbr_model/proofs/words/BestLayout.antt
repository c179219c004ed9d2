-- What the words of a run are made of, and the best layout of them.
use Rattle.tbr_model.proofs.Common.{◌≡◌, ℕ, ◌+◌, ◌<◌, ◌≤◌, Bool, true, false, nat_lt, nat_le, Option, None, List, [], ◌∷◌, ◌++◌, map, fold, flat_map, length, refl, ap, sym, ◌∙◌, arith, append_assoc}
use Rattle.tbr_model.proofs.Common.{append-nil, leb-true, leb-false, ltb-false, le-leb, Each, cond_both, Item, item_width, items_width, Word, Slot, slot_of, word_slots, joined, line_width, rest_width}
use Rattle.tbr_model.proofs.Common.{MayFollow, FirstMayBegin, IsLegalLine, IsBest, close, Lines, fill, place_word, no_lines, wrapped, IsNarrow}
use Rattle.std.proofs.Common.{le-ltb}
use Rattle.tbr_model.proofs.lists.Joined.{joined-append}
use Rattle.tbr_model.proofs.lists.Each.{each_append, each_weaker, each_map}
use Rattle.tbr_model.proofs.layouts.Ahead.{line_width_back, greedy_best}
use Rattle.tbr_model.specs.Greedy.{place}
use Rattle.tbr_model.proofs.layouts.Greedy.{stays_by_unit, stays_by_wider, MayNotBegin, HoldsSlots, InWider, longer, longer_holds_slots, next_holds_slots, fill_holds_slots, greedy_close}

-- ---- a word's slots

abbrev pub InWord : {A : Type 0} → ℕ → Bool → Slot A → Type 0
InWord width wider s = (s.begins ≡ false) × (s.wider ≡ wider) × (s.width ≤ width)

each_in_word : {A : Type 0} (columns : ℕ → Option ℕ) (width : ℕ) (wider : Bool) (is : List (Item A)) → Each (λ i. item_width columns i ≤ width) is →
    Each (InWord width wider) (map (slot_of columns wider None false) is)
each_in_word columns width wider = each_map (slot_of columns wider None false) (λ i. item_width columns i ≤ width) (InWord width wider) (λ i h. (refl, refl, h))

pub rest_width_within : {A : Type 0} (columns : ℕ → Option ℕ) (wider : Bool) (is : List (Item A)) → rest_width (map (slot_of columns wider None false) is) ≡ items_width columns is
rest_width_within columns wider [] = refl
rest_width_within columns wider (i ∷ is) = omega (arith, rest_width_within columns wider is)

-- ---- placing a word keeps what holds

closed_first : {A : Type 0} (width : ℕ) (slots : List (Slot A)) (done : List (List (Slot A))) (last : List (Slot A)) (t : Slot A) →
    HoldsSlots width slots (record { done = done; last = last }) → t.begins ≡ true → t.wider ≡ true → t.width ≤ width →
    HoldsSlots width (slots ++ t ∷ []) (record { done = close done last; last = t ∷ [] })
closed_first {A} width slots done [] t h begins wider narrow =
    longer_holds_slots width slots done [] (t ∷ []) h (record { fits = omega (arith, narrow); first = rw begins refl; others = tt })
closed_first {A} width slots done (s ∷ last) t h begins wider narrow =
    next_holds_slots width slots done (s ∷ last) (t ∷ []) (omega arith) h
    (stays_by_wider width (s ∷ last) t [] (omega arith) (rw (begins, wider) refl))
    (record { fits = omega (arith, narrow); first = rw begins refl; others = tt })

-- the word's slots, as `place` sees them: the first, and those inside
pub place_holds : {A : Type 0} (width : ℕ) (slots : List (Slot A)) (lines : Lines A) (wider : Bool) (t : Slot A) (v : List (Slot A)) →
    HoldsSlots width slots lines → t.begins ≡ true → t.wider ≡ wider → t.width ≤ width → Each (InWord width wider) v →
    nat_lt width (line_width (t ∷ v)) ≡ wider → HoldsSlots width (slots ++ (t ∷ v)) (place width lines wider (t ∷ v))
place_holds {A} width slots lines wider t v h begins is_wider narrow inside test =
    cond_both (nat_le (line_width (lines.last ++ (t ∷ v))) width) _ _ (HoldsSlots width (slots ++ (t ∷ v)))
    (λ e. fitting (leb-true _ _ e)) (λ e. cond_both wider _ _ (HoldsSlots width (slots ++ (t ∷ v))) (too_wide (leb-false _ _ e)) (next (leb-false _ _ e)))
  where
    follow : Each MayFollow v
    follow = each_weaker (InWord width wider) MayFollow (λ s i. rw (i.0) refl) v inside

    starts : FirstMayBegin (t ∷ v)
    starts = rw begins refl

    narrow_word : line_width (t ∷ v) ≤ width → wider ≡ false
    narrow_word n = sym test ∙ le-ltb _ _ n

    legal_word : line_width (t ∷ v) ≤ width → IsLegalLine width (t ∷ v)
    legal_word n = record { fits = n; first = starts; others = follow }

    on : (last : List (Slot A)) → HoldsSlots width slots (record { done = lines.done; last = last }) → line_width (last ++ (t ∷ v)) ≤ width → IsLegalLine width (last ++ (t ∷ v))
    on [] k n = legal_word n
    on (s ∷ last) k n =
        longer width (s ∷ last) (t ∷ v) (omega arith) k.legal n
        ((let w : t.wider ≡ false = is_wider ∙ narrow_word (omega (arith, n, line_width_back (s ∷ last) (t ∷ v))) in rw (begins, w) refl), follow)

    fitting : line_width (lines.last ++ (t ∷ v)) ≤ width → HoldsSlots width (slots ++ (t ∷ v)) (record { done = lines.done; last = lines.last ++ (t ∷ v) })
    fitting n = longer_holds_slots width slots lines.done lines.last (t ∷ v) h (on lines.last h n)

    too_wide : width < line_width (lines.last ++ (t ∷ v)) → wider ≡ true → HoldsSlots width (slots ++ (t ∷ v)) (fill width (close lines.done lines.last) [] (t ∷ v))
    too_wide n e =
        let first : nat_le (line_width ([] ++ (t ∷ []))) width ≡ true = le-leb _ _ (omega (arith, narrow)) in
        rw first (rw append_assoc at (fill_holds_slots width (slots ++ t ∷ []) (close lines.done lines.last) (t ∷ []) v (omega arith)
        (closed_first width slots lines.done lines.last t h begins (is_wider ∙ e) narrow)
        (each_weaker (InWord width wider) (InWider width) (λ s i. (i.0, i.1 ∙ e, i.2)) v inside)))

    some : (last : List (Slot A)) → width < line_width (last ++ (t ∷ v)) → line_width (t ∷ v) ≤ width → 0 < length last
    some [] n m = absurd (omega arith)
    some (s ∷ last) n m = omega arith

    next : width < line_width (lines.last ++ (t ∷ v)) → wider ≡ false → HoldsSlots width (slots ++ (t ∷ v)) (record { done = lines.done ++ lines.last ∷ []; last = t ∷ v })
    next n e =
        let m : line_width (t ∷ v) ≤ width = ltb-false _ _ (test ∙ e) in
        next_holds_slots width slots lines.done lines.last (t ∷ v) (some lines.last n m) h
        (stays_by_unit width lines.last t v n (each_weaker (InWord width wider) MayNotBegin (λ s i. rw (i.0, i.1, e) refl) v inside)) (legal_word m)

-- ---- all words

pub place_word_holds : {A : Type 0} (columns : ℕ → Option ℕ) (width : ℕ) (slots : List (Slot A)) (lines : Lines A) (gap : Option A) (is : List (Item A)) →
    HoldsSlots width slots lines → IsNarrow columns width is →
    HoldsSlots width (slots ++ word_slots columns width (record { gap = gap; items = is })) (place_word columns width lines (record { gap = gap; items = is }))
place_word_holds columns width slots lines gap [] h narrow =
    let e : nat_le (line_width (lines.last ++ [])) width ≡ true = le-leb _ _ (omega (arith, h.legal.fits, ap line_width (append-nil lines.last))) in
    rw e (longer_holds_slots width slots lines.done lines.last [] h (rw append-nil h.legal))
place_word_holds columns width slots lines gap (i ∷ is) h narrow =
    let wider = nat_lt width (items_width columns (i ∷ is)) in
    place_holds width slots lines wider (slot_of columns wider gap true i) (map (slot_of columns wider None false) is)
    h refl refl narrow.0 (each_in_word columns width wider is narrow.1)
    (ap (nat_lt width) (ap (λ n. item_width columns i + n) (rest_width_within columns wider is)))

fold_holds : {A : Type 0} (columns : ℕ → Option ℕ) (width : ℕ) (words : List (Word A)) (slots : List (Slot A)) (lines : Lines A) →
    HoldsSlots width slots lines → Each (λ w. IsNarrow columns width w.items) words →
    HoldsSlots width (slots ++ flat_map (word_slots columns width) words) (fold (place_word columns width) lines words)
fold_holds columns width [] slots lines h narrow = rw append-nil h
fold_holds columns width (w ∷ words) slots lines h narrow =
    rw append_assoc at (fold_holds columns width words (slots ++ word_slots columns width w) (place_word columns width lines w)
    (place_word_holds columns width slots lines w.gap w.items h narrow.0) narrow.1)

pub wrapped_holds : {A : Type 0} (columns : ℕ → Option ℕ) (width : ℕ) (words : List (Word A)) → Each (λ w. IsNarrow columns width w.items) words →
    HoldsSlots width (flat_map (word_slots columns width) words) (wrapped columns width words)
wrapped_holds columns width words narrow =
    fold_holds columns width words [] no_lines (record { whole = refl; each = tt; full = tt; closed = tt; legal = record { fits = omega arith; first = tt; others = tt } }) narrow

joined_close : {X : Type 0} (ls : List (List X)) (l : List X) → joined (close ls l) ≡ joined ls ++ l
joined_close ls [] = sym (append-nil (joined ls))
joined_close ls (x ∷ l) = joined-append ls ((x ∷ l) ∷ []) ∙ ap (λ r. joined ls ++ r) (append-nil (x ∷ l))

each_close : {X : Type 0} (P : List X → Type 0) (ls : List (List X)) (l : List X) → Each P ls → (0 < length l → P l) → Each P (close ls l)
each_close P ls [] h p = h
each_close P ls (x ∷ l) h p = each_append P ls ((x ∷ l) ∷ []) h (p (omega arith), tt)

-- the lines, the open one closed, are the best
pub holds_best : {A : Type 0} (width : ℕ) (slots : List (Slot A)) (lines : Lines A) → HoldsSlots width slots lines → IsBest width slots (close lines.done lines.last)
holds_best width slots lines h = grind (arith, greedy_best, joined_close, each_close, greedy_close)
