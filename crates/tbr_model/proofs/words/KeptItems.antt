-- The words of a run hold its kept items, and which runs have a legal layout.
use Rattle.tbr_model.proofs.Common.{◌≡◌, ℕ, ◌≤◌, Bool, true, false, nat_lt, Option, None, List, [], ◌∷◌, ◌++◌, map, fold, flat_map, refl, ap, sym, ◌∙◌, arith, append_assoc, append-nil, subst, Each}
use Rattle.tbr_model.proofs.Common.{cond_both, and_parts, cases_Bool, flat_map-append, Entry, character, marker_entry, Item, item_width, items_width, items_of, kept_items, is_kept, is_break_entry}
use Rattle.tbr_model.proofs.Common.{has_character, Word, Reading, read, reading, words_of, trailing, Slot, slot_of, word_slots, slots_of, joined, line_width, rest_width, IsLegalLine, IsLegal, IsBest}
use Rattle.tbr_model.proofs.Common.{close, wrapped, IsNarrow}
use Rattle.tbr_model.proofs.lists.Each.{each_front, each_back, each_append, each_unmap}
use Rattle.tbr_model.proofs.words.Items.{each_marker, break_lost}
use Rattle.tbr_model.proofs.words.BestLayout.{wrapped_holds, holds_best}

-- ---- the items of the words

abbrev pub held : {A : Type 0} → Reading A → List (Item A)
held r = flat_map (λ w. w.items) r.words ++ r.items

-- a break point is not kept
pub break_left : {A : Type 0} (columns : ℕ → Option ℕ) (e : Entry A) → is_break_entry e ≡ true → items_of columns e ≡ []
break_left columns (character c a b mode) h = let k : is_kept columns c ≡ false = break_lost columns c h in rw k refl
break_left columns (marker_entry name) h = cc

pub held-read : {A : Type 0} (columns : ℕ → Option ℕ) (r : Reading A) (e : Entry A) → held (read columns r e) ≡ held r ++ items_of columns e
held-read {A} columns r e = grind (arith, cond_both, break_left, and_parts, flat_map-append, append-nil, append_assoc)

pub held-fold : {A : Type 0} (columns : ℕ → Option ℕ) (run : List (Entry A)) (r : Reading A) → held (fold (read columns) r run) ≡ held r ++ kept_items columns run
held-fold columns [] r = sym (append-nil (held r))
held-fold columns (e ∷ run) r =
    held-fold columns run (read columns r e) ∙ ap (λ is. is ++ kept_items columns run) (held-read columns r e) ∙ append_assoc (held r) (items_of columns e) (kept_items columns run)

pub words_hold : {A : Type 0} (columns : ℕ → Option ℕ) (run : List (Entry A)) → flat_map (λ w. w.items) (words_of columns run) ++ trailing columns run ≡ kept_items columns run
words_hold {A} columns run = grind (arith, cases_Bool, flat_map-append, append-nil, held-fold)

-- ---- which runs have a legal layout

each_flat_map : {X Y : Type 0} (P : Y → Type 0) (f : X → List Y) (xs : List X) → Each P (flat_map f xs) → Each (λ x. Each P (f x)) xs
each_flat_map P f [] h = tt
each_flat_map P f (x ∷ xs) h = (each_front P (f x) (flat_map f xs) h, each_flat_map P f xs (each_back P (f x) (flat_map f xs) h))

flat_map_each : {X Y : Type 0} (P : Y → Type 0) (f : X → List Y) (xs : List X) → Each (λ x. Each P (f x)) xs → Each P (flat_map f xs)
flat_map_each P f [] h = tt
flat_map_each P f (x ∷ xs) h = each_append P (f x) (flat_map f xs) h.0 (flat_map_each P f xs h.1)

abbrev pub Fits : {A : Type 0} → ℕ → Slot A → Type 0
Fits width s = s.width ≤ width

narrow_rest : {A : Type 0} (width : ℕ) (l : List (Slot A)) → rest_width l ≤ width → Each (Fits width) l
narrow_rest width [] h = tt
narrow_rest width (s ∷ l) h = (omega arith, narrow_rest width l (omega arith))

narrow_line : {A : Type 0} (width : ℕ) (l : List (Slot A)) → line_width l ≤ width → Each (Fits width) l
narrow_line width [] h = tt
narrow_line width (s ∷ l) h = (omega arith, narrow_rest width l (omega arith))

narrow_lines : {A : Type 0} (width : ℕ) (ls : List (List (Slot A))) → Each (IsLegalLine width) ls → Each (Fits width) (joined ls)
narrow_lines width [] h = tt
narrow_lines width (l ∷ ls) h = each_append (Fits width) l (joined ls) (narrow_line width l h.0.fits) (narrow_lines width ls h.1)

narrow_within : {A : Type 0} (columns : ℕ → Option ℕ) (width : ℕ) (wider : Bool) (is : List (Item A)) →
    Each (Fits width) (map (slot_of columns wider None false) is) → IsNarrow columns width is
narrow_within columns width wider = each_unmap (slot_of columns wider None false) (λ i. item_width columns i ≤ width) (Fits width) (λ i h. h)

narrow_word : {A : Type 0} (columns : ℕ → Option ℕ) (width : ℕ) (gap : Option A) (is : List (Item A)) →
    Each (Fits width) (word_slots columns width (record { gap = gap; items = is })) → IsNarrow columns width is
narrow_word columns width gap [] h = tt
narrow_word columns width gap (i ∷ is) h = (h.0, narrow_within columns width (nat_lt width (items_width columns (i ∷ is))) is h.1)

narrow_words : {A : Type 0} (columns : ℕ → Option ℕ) (width : ℕ) (words : List (Word A)) →
    Each (Fits width) (flat_map (word_slots columns width) words) → Each (λ w. IsNarrow columns width w.items) words
narrow_words columns width [] h = tt
narrow_words columns width (w ∷ words) h = (
  narrow_word columns width w.gap w.items (each_front (Fits width) (word_slots columns width w) (flat_map (word_slots columns width) words) h),
  narrow_words columns width words (each_back (Fits width) (word_slots columns width w) (flat_map (word_slots columns width) words) h),
)

-- markers have no width
pub narrow_markers : {A : Type 0} (columns : ℕ → Option ℕ) (width : ℕ) (is : List (Item A)) → has_character is ≡ false → IsNarrow columns width is
narrow_markers columns width = each_marker (λ i. item_width columns i ≤ width) (λ name. omega arith)

pub narrow_if_legal : {A : Type 0} (columns : ℕ → Option ℕ) (width : ℕ) (run : List (Entry A)) (lines : List (List (Slot A))) →
    IsLegal width (slots_of columns width run) lines → IsNarrow columns width (kept_items columns run)
narrow_if_legal {A} columns width run lines h =
    let P : Item A → Type 0 = λ i. item_width columns i ≤ width in
    let words : Each (λ w. Each P w.items) (words_of columns run) = narrow_words columns width (words_of columns run) (subst (Each (Fits width)) h.whole (narrow_lines width lines h.each)) in
    subst (Each P) (words_hold columns run)
    (each_append P (flat_map (λ w. w.items) (words_of columns run)) (trailing columns run) (flat_map_each P (λ w. w.items) (words_of columns run) words)
    (cond_both (has_character (reading columns run).items) _ _ (IsNarrow columns width) (λ _. tt) (narrow_markers columns width (reading columns run).items)))

pub each_words_narrow : {A : Type 0} (columns : ℕ → Option ℕ) (width : ℕ) (run : List (Entry A)) →
    IsNarrow columns width (kept_items columns run) → Each (λ w. IsNarrow columns width w.items) (words_of columns run)
each_words_narrow {A} columns width run h =
    let P : Item A → Type 0 = λ i. item_width columns i ≤ width in
    let all : Each P (flat_map (λ w. w.items) (words_of columns run) ++ trailing columns run) = subst (Each P) (sym (words_hold columns run)) h in
    each_flat_map P (λ w. w.items) (words_of columns run) (each_front P (flat_map (λ w. w.items) (words_of columns run)) (trailing columns run) all)

unfoldable pub best_lines : {A : Type 0} → (ℕ → Option ℕ) → ℕ → List (Entry A) → List (List (Slot A))
best_lines columns width run = let lines = wrapped columns width (words_of columns run) in close lines.done lines.last

pub best_if_narrow : {A : Type 0} (columns : ℕ → Option ℕ) (width : ℕ) (run : List (Entry A)) →
    IsNarrow columns width (kept_items columns run) → IsBest width (slots_of columns width run) (best_lines columns width run)
unfolding best_lines
best_if_narrow {A} columns width run h =
    holds_best width (slots_of columns width run) (wrapped columns width (words_of columns run)) (wrapped_holds columns width (words_of columns run) (each_words_narrow columns width run h))
