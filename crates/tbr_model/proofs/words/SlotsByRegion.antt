-- The slots of a run, read region by region.
use Rattle.tbr_model.proofs.Common.{◌≡◌, ℕ, zero, suc, ◌+◌, ◌-◌, ◌≤◌, Bool, if◌then◌else◌, Option, Some, List, [], ◌∷◌, ◌++◌, fold, flat_map, take, drop, slice_get, slice_range, ap, sym, ◌∙◌, arith}
use Rattle.tbr_model.proofs.Common.{append_assoc, append-nil, take-append-drop, drop-drop, add-one, take-add, flat_map-append, Entry, items_of, kept_items, has_character, Word, word_of, Reading, read}
use Rattle.tbr_model.proofs.Common.{reading, Slot, word_slots, slots_of, NoBreakWorks, EndsAtWorkingBreak, IsFirstWorkingBreak, word_after}
use Rattle.tbr_model.proofs.lists.Each.{if_same}
use Rattle.tbr_model.proofs.words.KeptItems.{break_left}
use Rattle.tbr_model.proofs.layouts.Cuts.{line_and_rest, slice_get-drop}
use Rattle.tbr_model.proofs.words.Regions.{read_since, still, over_region}

-- What is known after a working break point, or at the run's start. These are the slots of the words so far, the
-- entries before (the break point, or none), and those that are left.
pub record HasRead {A : Type 0} (columns : ℕ → Option ℕ) (width : ℕ) (run : List (Entry A)) (slots : List (Slot A)) (before left : List (Entry A)) : Type 0 where
  pub words : List (Word A)
  pub placed : slots ≡ flat_map (word_slots columns width) words
  pub reads : reading columns run ≡ fold (read columns) (read_since columns words before []) left
  pub unkept : kept_items columns before ≡ []

-- a word may be read with what is before it
same_word : {A : Type 0} (columns : ℕ → Option ℕ) (before content : List (Entry A)) → kept_items columns before ≡ [] → word_after columns [] (before ++ content) ≡ word_after columns before content
same_word {A} columns before content h = grind (arith, flat_map-append)

slots_more : {A : Type 0} (columns : ℕ → Option ℕ) (width : ℕ) (words : List (Word A)) (w : Word A) →
    flat_map (word_slots columns width) (words ++ w ∷ []) ≡ flat_map (word_slots columns width) words ++ word_slots columns width w
slots_more columns width words w = simp (flat_map-append, append-nil)

pub after_word : {A : Type 0} (columns : ℕ → Option ℕ) (width : ℕ) (run : List (Entry A)) (slots : List (Slot A)) (before content left : List (Entry A)) (break : Entry A) →
    HasRead columns width run slots before (content ++ break ∷ left) → EndsAtWorkingBreak columns (record { content = content; break = break }) →
    HasRead columns width run (slots ++ word_slots columns width (word_after columns [] (before ++ content))) (break ∷ []) left
after_word {A} columns width run slots before content left break h ends = record {
  words = h.words ++ word_after columns before content ∷ [];
  placed = ap (λ (w : Word A). slots ++ word_slots columns width w) (same_word columns before content h.unkept)
      ∙ ap (λ (s : List (Slot A)). s ++ word_slots columns width (word_after columns before content)) h.placed
      ∙ sym (slots_more columns width h.words (word_after columns before content));
  reads = h.reads ∙ ap (fold (read columns) (read_since columns h.words before [])) (sym (append_assoc content (break ∷ []) left))
      ∙ over_region columns h.words before (record { content = content; break = break }) left ends;
  unkept = append-nil (items_of columns break) ∙ break_left columns break ends.is_break;
}

pub at_end : {A : Type 0} (columns : ℕ → Option ℕ) (width : ℕ) (run : List (Entry A)) (slots : List (Slot A)) (before left : List (Entry A)) →
    HasRead columns width run slots before left → NoBreakWorks columns left →
    slots_of columns width run ≡ (if has_character (kept_items columns left) then slots ++ word_slots columns width (word_after columns [] (before ++ left)) else slots)
at_end {A} columns width run slots before left h last =
    ap (λ (r : Reading A). flat_map (word_slots columns width) (if has_character r.items then r.words ++ word_of r ∷ [] else r.words))
    (h.reads ∙ still columns h.words before [] left last)
    ∙ sym (if_same (flat_map (word_slots columns width)) (has_character (kept_items columns left)) (h.words ++ word_after columns before left ∷ []) h.words _ _
    (ap (λ (v : Word A). slots ++ word_slots columns width v) (same_word columns before left h.unkept)
    ∙ ap (λ (s : List (Slot A)). s ++ word_slots columns width (word_after columns before left)) h.placed ∙ sym (slots_more columns width h.words (word_after columns before left))) h.placed)

-- ---- by places

range_add : {X : Type 0} (xs : List X) (a b n : ℕ) → a ≤ b → slice_range xs a (b + n) ≡ slice_range xs a b ++ take n (drop b xs)
range_add {X} xs a b n h =
    ap (λ k. take k (drop a xs)) (let e : (b + n) - a ≡ (b - a) + n = omega arith in e) ∙ take-add (b - a) n (drop a xs)
    ∙ ap (λ (ys : List X). slice_range xs a b ++ take n ys) (drop-drop (b - a) a xs ∙ ap (λ k. drop k xs) (let e : a + (b - a) ≡ b = omega arith in e))

-- an item by its place, and what is after it
split_at : {X : Type 0} (xs : List X) (i : ℕ) (x : X) → slice_get xs i ≡ Some x → drop i xs ≡ x ∷ drop (suc i) xs
split_at [] i x h = cc
split_at (y ∷ xs) zero x h = let same : y ≡ x = cc in ap (λ z. z ∷ xs) same
split_at (y ∷ xs) (suc i) x h = split_at xs i x h

pub next_region : {A : Type 0} (columns : ℕ → Option ℕ) (width : ℕ) (run : List (Entry A)) (slots : List (Slot A)) (opening from place : ℕ) → opening ≤ from →
    HasRead columns width run slots (slice_range run opening from) (drop from run) → IsFirstWorkingBreak columns (drop from run) place →
    HasRead columns width run
    (slots ++ word_slots columns width (word_after columns [] (slice_range run opening (from + place))))
    (slice_range run (from + place) (from + place + 1)) (drop (from + place + 1) run)
next_region {A} columns width run slots opening from place le h (break, at, ends) =
    let content = take place (drop from run) in
    let back : drop place (drop from run) ≡ drop (from + place) run = drop-drop place from run in
    let split : drop (from + place) run ≡ break ∷ drop (suc (from + place)) run = split_at run (from + place) break (sym (slice_get-drop from place run) ∙ at) in
    let parts : drop from run ≡ content ++ break ∷ drop (suc (from + place)) run = sym (take-append-drop place (drop from run)) ∙ ap (λ (l : List (Entry A)). content ++ l) (back ∙ split) in
    let whole : slice_range run opening (from + place) ≡ slice_range run opening from ++ content = range_add run opening from place le in
    let one : slice_range run (from + place) (suc (from + place)) ≡ break ∷ [] =
    ap (λ k. take k (drop (from + place) run)) (let e : suc (from + place) - (from + place) ≡ 1 = omega arith in e) ∙ ap (take 1) split in
    rw (add-one, one, whole) (after_word columns width run slots (slice_range run opening from) content (drop (suc (from + place)) run) break (rw parts at h) ends)

pub all_read : {A : Type 0} (columns : ℕ → Option ℕ) (width : ℕ) (run : List (Entry A)) (slots : List (Slot A)) (opening from : ℕ) → opening ≤ from →
    HasRead columns width run slots (slice_range run opening from) (drop from run) → NoBreakWorks columns (drop from run) →
    (b : Bool) → has_character (kept_items columns (drop from run)) ≡ b →
    slots_of columns width run ≡ (if b then slots ++ word_slots columns width (word_after columns [] (drop opening run)) else slots)
all_read {A} columns width run slots opening from le h last b e =
    at_end columns width run slots (slice_range run opening from) (drop from run) h last
    ∙ ap (λ (l : List (Entry A)). if has_character (kept_items columns (drop from run)) then slots ++ word_slots columns width (word_after columns [] l) else slots) (line_and_rest run opening from le)
    ∙ ap (λ c. if c then slots ++ word_slots columns width (word_after columns [] (drop opening run)) else slots) e
