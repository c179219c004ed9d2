-- No line of the best layout is without a character.
use Rattle.tbr_model.proofs.Common.{◌≡◌, ℕ, ◌+◌, ◌<◌, ◌≤◌, Bool, true, false, nat_lt, nat_le, ◌||◌, Option, None, List, [], ◌∷◌, ◌++◌, map, fold, refl, ap, sym, ◌∙◌, arith, append_assoc, append-nil}
use Rattle.tbr_model.proofs.Common.{leb-true, leb-false, ltb-true, ltb-false, le-leb, Each, cond_both, and_parts, or_right, or_parts, map-append, Entry, Item, glyph, marker, item_width, items_width}
use Rattle.tbr_model.proofs.Common.{has_character, Word, word_of, Reading, works, read, words_of, Slot, slot_of, slots_of, line_width, gap_width, line_has_character, IsBest, close, Lines, fill}
use Rattle.tbr_model.proofs.Common.{place_word, no_lines, wrapped, IsNarrow}
use Rattle.tbr_model.proofs.words.Items.{has_character-append, no_character_no_width}
use Rattle.tbr_model.proofs.lists.Each.{each_append, each_map}
use Rattle.tbr_model.proofs.layouts.Ahead.{rest_width-append, unique}
use Rattle.tbr_model.proofs.words.BestLayout.{rest_width_within}
use Rattle.tbr_model.proofs.words.KeptItems.{narrow_if_legal, best_lines, best_if_narrow, each_words_narrow}

-- ---- characters of items and lines

line-append : {A : Type 0} (a b : List (Slot A)) → line_has_character (a ++ b) ≡ line_has_character a || line_has_character b
line-append a b = ap has_character (map-append (λ s. s.item) a b) ∙ has_character-append (map (λ s. s.item) a) (map (λ s. s.item) b)

back_has : {A : Type 0} (a b : List (Slot A)) → line_has_character b ≡ true → line_has_character (a ++ b) ≡ true
back_has a b h = line-append a b ∙ or_right (line_has_character a) (line_has_character b) h

abbrev pub HasGlyph : {A : Type 0} → List (Slot A) → Type 0
HasGlyph l = line_has_character l ≡ true

-- ---- a wider word's lines

-- inside a word: after no gap, as wide as its item, and no wider than a line
abbrev pub Inner : {A : Type 0} → (ℕ → Option ℕ) → ℕ → Slot A → Type 0
Inner columns width s = (s.gap ≡ None) × (s.width ≡ item_width columns s.item) × (s.width ≤ width)

pub line_width-one : {A : Type 0} (l : List (Slot A)) (s : Slot A) → s.gap ≡ None → line_width (l ++ s ∷ []) ≡ line_width l + s.width
line_width-one [] s e = omega arith
line_width-one (t ∷ l) s e = omega (arith, rest_width-append l (s ∷ []), ap gap_width e)

pub wide_items : {A : Type 0} (columns : ℕ → Option ℕ) (is : List (Item A)) → 0 < items_width columns is → has_character is ≡ true
wide_items columns [] h = absurd (omega arith)
wide_items columns (glyph c a ∷ is) h = refl
wide_items columns (marker m ∷ is) h = wide_items columns is (omega arith)

one_width : {A : Type 0} (columns : ℕ → Option ℕ) (s : Slot A) → s.width ≡ item_width columns s.item → line_has_character (s ∷ []) ≡ false → s.width ≡ 0
one_width {A} columns s e none = omega (arith, e, no_character_no_width columns (s.item ∷ []) none)

fill_characters : {A : Type 0} (columns : ℕ → Option ℕ) (width : ℕ) (done : List (List (Slot A)))
    (last ss : List (Slot A)) → Each HasGlyph done → Each (Inner columns width) ss → line_width last ≤ width →
    (line_has_character last ≡ false → line_width last ≡ 0) → HasGlyph (last ++ ss) → Each HasGlyph (fill width done last ss).done × HasGlyph (fill width done last ss).last
fill_characters columns width done last [] h inner fits empty some = (h, rw append-nil at some)
fill_characters {A} columns width done last (s ∷ ss) h inner fits empty some =
    cond_both (nat_le (line_width (last ++ s ∷ [])) width) _ _ (λ (q : Lines A). Each HasGlyph q.done × HasGlyph q.last)
    (λ e. fill_characters columns width done (last ++ s ∷ []) ss h inner.1 (leb-true _ _ e) longer (rw append_assoc some))
    (λ e.
    let wide : width < line_width last + s.width = omega (arith, leb-false _ _ e, line_width-one last s inner.0.0) in
    fill_characters columns width (done ++ last ∷ []) (s ∷ []) ss (each_append HasGlyph done (last ∷ []) h (ended (line_has_character last) refl wide, tt)) inner.1
    (omega (arith, inner.0.2)) (λ none. omega (arith, one_width columns s inner.0.1 none))
    (line-append (s ∷ []) ss ∙ ap (λ x. x || line_has_character ss) (wide_items columns (s.item ∷ []) (omega (arith, wide, fits, inner.0.1)))))
  where
    longer : line_has_character (last ++ s ∷ []) ≡ false → line_width (last ++ s ∷ []) ≡ 0
    longer none =
        let both : (line_has_character last || line_has_character (s ∷ [])) ≡ false = sym (line-append last (s ∷ [])) ∙ none in
        omega (arith, line_width-one last s inner.0.0, empty (or_parts _ _ both).0, one_width columns s inner.0.1 (or_parts _ _ both).1)

    ended : (b : Bool) → line_has_character last ≡ b → width < line_width last + s.width → line_has_character last ≡ true
    ended true e wide = e
    ended false e wide = absurd (omega (arith, wide, empty e, inner.0.2))

-- ---- words

abbrev pub LastHas : {A : Type 0} → List (Slot A) → Type 0
LastHas [] = Unit {0}
LastHas (s ∷ l) = HasGlyph (s ∷ l)

last_has : {A : Type 0} (l : List (Slot A)) → HasGlyph l → LastHas l
last_has [] h = tt
last_has (s ∷ l) h = h

each_close : {A : Type 0} (done : List (List (Slot A))) (last : List (Slot A)) → Each HasGlyph done → LastHas last → Each HasGlyph (close done last)
each_close done [] h k = h
each_close done (s ∷ l) h k = each_append HasGlyph done ((s ∷ l) ∷ []) h (k, tt)

pub inner_slots : {A : Type 0} (columns : ℕ → Option ℕ) (width : ℕ) (wider : Bool) (is : List (Item A)) →
    IsNarrow columns width is → Each (Inner columns width) (map (slot_of columns wider None false) is)
inner_slots columns width wider = each_map (slot_of columns wider None false) (λ i. item_width columns i ≤ width) (Inner columns width) (λ i h. (refl, refl, h))

pub items_within : {A : Type 0} (columns : ℕ → Option ℕ) (wider : Bool) (is : List (Item A)) → map (λ s. s.item) (map (slot_of columns wider None false) is) ≡ is
items_within columns wider [] = refl
items_within columns wider (i ∷ is) = ap (λ js. i ∷ js) (items_within columns wider is)

pub place_characters : {A : Type 0} (columns : ℕ → Option ℕ) (width : ℕ) (lines : Lines A) (gap : Option A)
    (is : List (Item A)) → Each HasGlyph lines.done → LastHas lines.last → has_character is ≡ true →
    IsNarrow columns width is →
    (let r = place_word columns width lines (record { gap = gap; items = is }) in Each HasGlyph r.done × LastHas r.last)
place_characters columns width lines gap [] h k some narrow = cc
place_characters {A} columns width lines gap (i ∷ is) h k some narrow =
    cond_both (nat_le (line_width (lines.last ++ slots)) width) _ _ (λ (q : Lines A). Each HasGlyph q.done × LastHas q.last)
    (λ _. (h, last_has (lines.last ++ slots) (back_has lines.last slots word_has)))
    (λ full. cond_both wider _ _ (λ (q : Lines A). Each HasGlyph q.done × LastHas q.last)
    (λ _. filled) (λ not_wider. (each_append HasGlyph lines.done (lines.last ∷ []) h (open_has lines.last k (leb-false _ _ full) (ltb-false _ _ not_wider), tt), word_has)))
  where
    wider : Bool
    wider = nat_lt width (items_width columns (i ∷ is))

    first : Slot A
    first = slot_of columns wider gap true i

    rest : List (Slot A)
    rest = map (slot_of columns wider None false) is

    slots : List (Slot A)
    slots = first ∷ rest

    word_has : HasGlyph slots
    word_has = ap (λ js. has_character (i ∷ js)) (items_within columns wider is) ∙ some

    filled : (let r = fill width (close lines.done lines.last) [] slots in Each HasGlyph r.done × LastHas r.last)
    filled =
        let fits : nat_le (line_width ([] ++ first ∷ [])) width ≡ true = le-leb _ _ (omega (arith, narrow.0)) in
        let both = fill_characters columns width (close lines.done lines.last) (first ∷ []) rest
        (each_close lines.done lines.last h k) (inner_slots columns width wider is narrow.1) (omega (arith, narrow.0))
        (λ none. omega (arith, one_width columns first refl none)) word_has in
        rw fits (both.0, last_has (fill width (close lines.done lines.last) (first ∷ []) rest).last both.1)

    open_has : (l : List (Slot A)) → LastHas l → width < line_width (l ++ slots) → items_width columns (i ∷ is) ≤ width → HasGlyph l
    open_has [] p wide narrow = absurd (omega (arith, wide, narrow, rest_width_within columns wider is))
    open_has (s ∷ l) p wide narrow = p

fold_characters : {A : Type 0} (columns : ℕ → Option ℕ) (width : ℕ) (words : List (Word A)) (lines : Lines A) → Each HasGlyph lines.done → LastHas lines.last →
    Each (λ w. has_character w.items ≡ true) words → Each (λ w. IsNarrow columns width w.items) words →
    Each HasGlyph (fold (place_word columns width) lines words).done × LastHas (fold (place_word columns width) lines words).last
fold_characters columns width [] lines h k some narrow = (h, k)
fold_characters columns width (w ∷ words) lines h k some narrow =
    let placed = place_characters columns width lines w.gap w.items h k some.0 narrow.0 in
    fold_characters columns width words (place_word columns width lines w) placed.0 placed.1 some.1 narrow.1

-- ---- the words of a run have characters

abbrev WordHas : {A : Type 0} → Word A → Type 0
WordHas w = has_character w.items ≡ true

ended_words : {A : Type 0} (columns : ℕ → Option ℕ) (run : List (Entry A)) (r : Reading A) → Each WordHas r.words → Each WordHas (fold (read columns) r run).words
ended_words columns [] r h = h
ended_words {A} columns (e ∷ run) r h =
    ended_words columns run (read columns r e)
    (cond_both (works columns r e) _ _ (λ (q : Reading A). Each WordHas q.words)
    (λ w. each_append WordHas r.words (word_of r ∷ []) h (wide_items columns r.items (ltb-true _ _ (and_parts _ _ w).1), tt)) (λ _. h))

pub words_have : {A : Type 0} (columns : ℕ → Option ℕ) (run : List (Entry A)) → Each WordHas (words_of columns run)
words_have {A} columns run = grind (arith, cond_both, each_append, ended_words)

pub best_characters : {A : Type 0} (columns : ℕ → Option ℕ) (width : ℕ) (run : List (Entry A)) (lines : List (List (Slot A))) → IsBest width (slots_of columns width run) lines → Each HasGlyph lines
unfolding best_lines
best_characters {A} columns width run lines best =
    let narrow = narrow_if_legal columns width run lines best.legal in
    let same : lines ≡ best_lines columns width run = unique width (slots_of columns width run) (best_lines columns width run) lines (best_if_narrow columns width run narrow) best in
    let both = fold_characters columns width (words_of columns run) no_lines tt tt (words_have columns run) (each_words_narrow columns width run narrow) in
    rw same (each_close (wrapped columns width (words_of columns run)).done (wrapped columns width (words_of columns run)).last both.0 both.1)
