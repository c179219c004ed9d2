-- Layouts as cuts are layouts as lines.
use Rattle.tbr_model.proofs.Common.{◌≡◌, ℕ, zero, suc, ◌+◌, ◌-◌, ◌<◌, ◌≤◌, Option, List, [], ◌∷◌, ◌++◌, map, length, take, drop, get_or, Some, slice_get, slice_range, refl, ap, sym, ◌∙◌, inl, inr}
use Rattle.tbr_model.proofs.Common.{arith, length-append, length-take, length-drop, subst, drop-drop, take_at, drop_of_length-le, add-one, ◌↔◌, drop_at, Each, slice_get_within, cases_lt}
use Rattle.tbr_model.proofs.Common.{not_from_false, false_from_ne_true, both_ways, not-true, Slot, joined, placed, line_width, line_text, MayFollow, FirstMayBegin, OthersMayFollow, IsLegalLine}
use Rattle.tbr_model.proofs.Common.{IsLegal, HasNoEmptyLine, IsAhead, IsBest, lines_after, lines_between, cuts_of, IsLegalLayout, IsBestLayout}
use Rattle.std.proofs.Common.{Contains}
use Rattle.std.proofs.lemmas.List.Folds.{drop_split}
use Rattle.std.specs.List.Sorted.{IsNonDecreasing, IsStrictlyIncreasing}
use Rattle.tbr_model.proofs.lists.Each.{each_weaker}
use Rattle.tbr_model.specs.Layout.{MayBegin}
use Rattle.tbr_model.specs.Cuts.{IsLayout, ends_of, placed_by_cuts, BeginsWider, with_gap}
use Rattle.tbr_model.proofs.layouts.Ahead.{joined_begins}

-- ---- parts of lists

pub slice_get-drop : {X : Type 0} (n k : ℕ) (xs : List X) → slice_get (drop n xs) k ≡ slice_get xs (n + k)
slice_get-drop zero k xs = ap (slice_get xs) (let e : k ≡ 0 + k = omega arith in e)
slice_get-drop (suc n) k [] = refl
slice_get-drop (suc n) k (x ∷ xs) = slice_get-drop n k xs ∙ ap (slice_get (x ∷ xs)) (let e : suc (n + k) ≡ suc n + k = omega arith in e)

slice_get-append : {X : Type 0} (xs ys : List X) (k : ℕ) → k < length xs → slice_get (xs ++ ys) k ≡ slice_get xs k
slice_get-append [] ys k h = absurd (omega arith)
slice_get-append (x ∷ xs) ys zero h = refl
slice_get-append (x ∷ xs) ys (suc k) h = slice_get-append xs ys k (omega arith)

-- a line and what is after it
pub line_and_rest : {X : Type 0} (xs : List X) (c d : ℕ) → c ≤ d → slice_range xs c d ++ drop d xs ≡ drop c xs
line_and_rest xs c d h = sym (drop_split xs c d h)

pub length-line : {X : Type 0} (xs : List X) (c d : ℕ) → c ≤ d → d ≤ length xs → length (slice_range xs c d) ≡ d - c
length-line xs c d h k = omega (arith, length-take (d - c) (drop c xs), length-drop c xs)

-- ---- cuts that never fall, from one cut to a last

abbrev pub RisesTo : ℕ → List ℕ → ℕ → Type 0
RisesTo c [] n = c ≡ n
RisesTo c (d ∷ ds) n = (c ≤ d) × RisesTo d ds n

pub rises_below : (c n : ℕ) (ds : List ℕ) → RisesTo c ds n → c ≤ n
rises_below c n [] h = omega arith
rises_below c n (d ∷ ds) h = omega (arith, h.0, rises_below d n ds h.1)

rises_above : (c n : ℕ) (ds : List ℕ) → RisesTo c ds n → (k e : ℕ) → k < length (c ∷ ds) → c ≤ get_or (c ∷ ds) k e
rises_above c n ds h zero e k = omega arith
rises_above c n [] h (suc j) e k = absurd (omega arith)
rises_above c n (d ∷ ds) h (suc j) e k = omega (arith, h.0, rises_above d n ds h.1 j e (omega arith))

rises_if : (c n : ℕ) (ds : List ℕ) → IsNonDecreasing (c ∷ ds) → slice_get (c ∷ ds) (length ds) ≡ Some n → RisesTo c ds n
rises_if c n [] h e = cc
rises_if c n (d ∷ ds) h e =
    (h 0 1 0 (omega arith) (omega arith), rises_if d n ds (λ i j k p q. h (suc i) (suc j) k (omega arith) (omega arith)) e)

never_falls : (c n : ℕ) (ds : List ℕ) → RisesTo c ds n → IsNonDecreasing (c ∷ ds)
never_falls c n ds h zero j e p q = rises_above c n ds h j e q
never_falls c n [] h (suc i) zero e p q = absurd (omega arith)
never_falls c n [] h (suc i) (suc j) e p q = absurd (omega arith)
never_falls c n (d ∷ ds) h (suc i) zero e p q = absurd (omega arith)
never_falls c n (d ∷ ds) h (suc i) (suc j) e p q = never_falls d n ds h.1 i j e (omega arith) (omega arith)

ends_at : (c n : ℕ) (ds : List ℕ) → RisesTo c ds n → slice_get (c ∷ ds) (length ds) ≡ Some n
ends_at c n [] h = ap Some h
ends_at c n (d ∷ ds) h = ends_at d n ds h.1

-- what is said of each layout is shown for 0 and cuts that rise from it
pub rises_layout : (n : ℕ) (ds : List ℕ) → IsLayout n (0 ∷ ds) → RisesTo 0 ds n
rises_layout n ds h = rises_if 0 n ds h.never_falls (ap (slice_get (0 ∷ ds)) (let e : length ds ≡ length (0 ∷ ds) - 1 = omega arith in e) ∙ h.ends)

pub layout_rises : (n : ℕ) (ds : List ℕ) → RisesTo 0 ds n → IsLayout n (0 ∷ ds)
layout_rises n ds h = record {
  begins = refl;
  never_falls = never_falls 0 n ds h;
  ends = ap (slice_get (0 ∷ ds)) (let e : length (0 ∷ ds) - 1 ≡ length ds = omega arith in e) ∙ ends_at 0 n ds h;
}

pub by_rising : (n : ℕ) (cuts : List ℕ) (P : List ℕ → Type 0) → ((ds : List ℕ) → RisesTo 0 ds n → P (0 ∷ ds)) → IsLayout n cuts → P cuts
by_rising n [] P f h = absurd (let e : slice_get (let l : List ℕ = [] in l) 0 ≡ Some 0 = h.begins in cc)
by_rising n (c ∷ ds) P f h = grind (arith, ℕ, rises_layout)

-- ---- lines and their cuts

pub joined_after : {X : Type 0} (xs : List X) (c : ℕ) (ds : List ℕ) → RisesTo c ds (length xs) → joined (lines_after xs c ds) ≡ drop c xs
joined_after xs c [] h = sym (drop_of_length-le xs (omega (arith, h)))
joined_after xs c (d ∷ ds) h = ap (λ r. slice_range xs c d ++ r) (joined_after xs d ds h.1) ∙ line_and_rest xs c d h.0

ends_after : {X : Type 0} (xs : List X) (c : ℕ) (ds : List ℕ) → RisesTo c ds (length xs) → ends_of c (lines_after xs c ds) ≡ ds
ends_after xs c [] h = refl
ends_after {X} xs c (d ∷ ds) h =
    let end : c + length (slice_range xs c d) ≡ d = omega (arith, h.0, length-line xs c d h.0 (rises_below d (length xs) ds h.1)) in
    rw end (ap (λ (es : List ℕ). d ∷ es) (ends_after xs d ds h.1))

rises_ends : {X : Type 0} (c : ℕ) (ls : List (List X)) → RisesTo c (ends_of c ls) (c + length (joined ls))
rises_ends c [] = omega arith
rises_ends {X} c (l ∷ ls) = (omega arith, subst (RisesTo (c + length l) (ends_of (c + length l) ls)) (omega (arith, length-append l (joined ls))) (rises_ends (c + length l) ls))

lines_of_ends : {X : Type 0} (xs : List X) (c : ℕ) (ls : List (List X)) → drop c xs ≡ joined ls → lines_after xs c (ends_of c ls) ≡ ls
lines_of_ends xs c [] h = refl
lines_of_ends {X} xs c (l ∷ ls) h =
    let room : (c + length l) - c ≡ length l = omega arith in
    let line : slice_range xs c (c + length l) ≡ l = ap (λ (n : ℕ). take n (drop c xs)) room ∙ ap (take (length l)) h ∙ take_at l (joined ls) (length l) refl in
    let rest : drop (c + length l) xs ≡ joined ls = sym (drop-drop (length l) c xs) ∙ ap (drop (length l)) h ∙ drop_at l (joined ls) (length l) refl in
    let later : lines_after xs (c + length l) (ends_of (c + length l) ls) ≡ ls = lines_of_ends xs (c + length l) ls rest in
    cc

placed_after : {X : Type 0} (xs : List X) (c : ℕ) (ds : List ℕ) (n : ℕ) → RisesTo c ds (length xs) → placed n (lines_after xs c ds) + c ≡ get_or (c ∷ ds) n (length xs)
placed_after xs c ds zero h = omega arith
placed_after xs c [] (suc n) h = omega (arith, h)
placed_after xs c (d ∷ ds) (suc n) h =
    omega (arith, h.0, placed_after xs d ds n h.1, length-line xs c d h.0 (rises_below d (length xs) ds h.1), length-append (slice_range xs c d) (joined (take n (lines_after xs d ds))))

line_at : {X : Type 0} (xs : List X) (c : ℕ) (ds : List ℕ) (n : ℕ) → n < length ds → slice_get (lines_after xs c ds) n ≡ Some (slice_range xs (get_or (c ∷ ds) n 0) (get_or ds n 0))
line_at xs c [] n h = absurd (omega arith)
line_at xs c (d ∷ ds) zero h = refl
line_at xs c (d ∷ ds) (suc n) h = line_at xs d ds n (omega arith)

pub lines_joined : {X : Type 0} (items : List X) (cuts : List ℕ) → IsLayout (length items) cuts → joined (lines_between items cuts) ≡ items
lines_joined items cuts = by_rising (length items) cuts (λ cs. joined (lines_between items cs) ≡ items) (λ ds h. joined_after items 0 ds h)

pub line_of : {X : Type 0} (items : List X) (cuts : List ℕ) (n : ℕ) → n + 1 < length cuts → slice_get (lines_between items cuts) n ≡ Some (slice_range items (get_or cuts n 0) (get_or cuts (n + 1) 0))
line_of items [] n h = absurd (omega arith)
line_of items (c ∷ ds) n h = rw add-one (line_at items c ds n (omega arith))

pub cuts_again : {X : Type 0} (items : List X) (cuts : List ℕ) → IsLayout (length items) cuts → cuts_of (lines_between items cuts) ≡ cuts
cuts_again items cuts = by_rising (length items) cuts (λ cs. cuts_of (lines_between items cs) ≡ cs) (λ ds h. ap (λ (es : List ℕ). 0 ∷ es) (ends_after items 0 ds h))

pub lines_again : {X : Type 0} (lines : List (List X)) → IsLayout (length (joined lines)) (cuts_of lines) × (lines_between (joined lines) (cuts_of lines) ≡ lines)
lines_again lines = (
  layout_rises (length (joined lines)) (ends_of 0 lines) (subst (RisesTo 0 (ends_of 0 lines)) (omega arith) (rises_ends 0 lines)),
  lines_of_ends (joined lines) 0 lines refl,
)

pub placed_alike : {X : Type 0} (items : List X) (cuts : List ℕ) (n : ℕ) → IsLayout (length items) cuts → placed n (lines_between items cuts) ≡ placed_by_cuts (length items) n cuts
placed_alike items cuts n =
    by_rising (length items) cuts (λ cs. placed n (lines_between items cs) ≡ placed_by_cuts (length items) n cs)
    (λ ds h. let e : placed n (lines_after items 0 ds) + 0 ≡ get_or (0 ∷ ds) n (length items) = placed_after items 0 ds n h in omega arith)

-- ---- legal

slot_begins : {A : Type 0} (l : List (Slot A)) (s : Slot A) → FirstMayBegin l → slice_get l 0 ≡ Some s → MayBegin s
slot_begins [] s h e = cc
slot_begins (t ∷ l) s h e = let same : t ≡ s = cc in rw same at h

first_begins : {A : Type 0} (l : List (Slot A)) → ((s : Slot A) → slice_get l 0 ≡ Some s → MayBegin s) → FirstMayBegin l
first_begins [] h = tt
first_begins (s ∷ l) h = h s refl

each_at : {X : Type 0} (P : X → Type 0) (xs : List X) (k : ℕ) (x : X) → Each P xs → slice_get xs k ≡ Some x → P x
each_at P [] k x h e = cc
each_at P (y ∷ xs) zero x h e = let same : y ≡ x = cc in subst P same h.0
each_at P (y ∷ xs) (suc k) x h e = each_at P xs k x h.1 e

each_by_place : {X : Type 0} (P : X → Type 0) (xs : List X) → ((k : ℕ) (x : X) → slice_get xs k ≡ Some x → P x) → Each P xs
each_by_place P [] h = tt
each_by_place P (x ∷ xs) h = (h 0 x refl, each_by_place P xs (λ k y e. h (suc k) y e))

follows_at : {A : Type 0} (l : List (Slot A)) (k : ℕ) (s : Slot A) → OthersMayFollow l → slice_get l (suc k) ≡ Some s → MayFollow s
follows_at [] k s h e = cc
follows_at (t ∷ l) k s h e = each_at MayFollow l k s h e

others_follow : {A : Type 0} (l : List (Slot A)) → ((k : ℕ) (s : Slot A) → slice_get l (suc k) ≡ Some s → MayFollow s) → OthersMayFollow l
others_follow [] h = tt
others_follow (t ∷ l) h = each_by_place MayFollow l h

-- a slot of a line, by its place among all
slot_of_line : {X : Type 0} (xs : List X) (c d k : ℕ) → c ≤ d → d ≤ length xs → k < d - c → slice_get (slice_range xs c d) k ≡ slice_get xs (c + k)
slot_of_line {X} xs c d k p q h =
    sym (slice_get-append (slice_range xs c d) (drop d xs) k (omega (arith, h, length-line xs c d p q)))
    ∙ ap (λ (l : List X). slice_get l k) (line_and_rest xs c d p) ∙ slice_get-drop c k xs

contains_above : (c n : ℕ) (ds : List ℕ) (x : ℕ) → RisesTo c ds n → Contains (c ∷ ds) x → c ≤ x
contains_above c n ds x h k = omega (arith, rises_above c n ds h k.0 x k.1, k.2)

contains_later : (c : ℕ) (ds : List ℕ) (x : ℕ) → c < x → Contains (c ∷ ds) x → Contains ds x
contains_later c ds x h (zero, p, q) = absurd (omega arith)
contains_later c ds x h (suc k, p, q) = (k, omega arith, q)

-- the cuts after a position say which lines there are legal
lines_legal : {A : Type 0} (width : ℕ) (slots : List (Slot A)) (c : ℕ) (ds : List ℕ) → RisesTo c ds (length slots) →
    Each (λ line. line_width line ≤ width) (lines_after slots c ds) →
    ((cut : ℕ) (s : Slot A) → Contains (c ∷ ds) cut → slice_get slots cut ≡ Some s → MayBegin s) →
    ((place : ℕ) (s : Slot A) → c < place → slice_get slots place ≡ Some s → BeginsWider s → Contains ds place) →
    Each (IsLegalLine width) (lines_after slots c ds)
lines_legal width slots c [] h fits begins wider = tt
lines_legal {A} width slots c (d ∷ ds) h fits begins wider = (
  record {
    fits = fits.0;
    first = first_begins line (λ s e. begins c s (0, omega arith, refl) (ap (slice_get slots) (let i : c ≡ c + 0 = omega arith in i) ∙ place 0 s e));
    others = others_follow line (λ k s e. not_from_false _ (false_from_ne_true _ (inside k s e)));
  },
  lines_legal width slots d ds h.1 fits.1 (λ cut s k e. begins cut s (suc k.0, omega (arith, k.1), k.2) e)
      (λ p s q e b. contains_later d ds p q (wider p s (omega (arith, h.0)) e b)),
)
  where
    line : List (Slot A)
    line = slice_range slots c d

    last : d ≤ length slots
    last = rises_below d (length slots) ds h.1

    within : (k : ℕ) (s : Slot A) → slice_get line k ≡ Some s → k < d - c
    within k s e = omega (arith, slice_get_within line k s e, length-line slots c d h.0 last)

    place : (k : ℕ) (s : Slot A) → slice_get line k ≡ Some s → slice_get slots (c + k) ≡ Some s
    place k s e = sym (slot_of_line slots c d k h.0 last (within k s e)) ∙ e

    inside : (k : ℕ) (s : Slot A) → slice_get line (suc k) ≡ Some s → BeginsWider s → ⊥
    inside k s e b =
        let at = wider (c + suc k) s (omega arith) (place (suc k) s e) b in
        omega (arith, contains_above d (length slots) ds (c + suc k) h.1 at, within (suc k) s e, h.0)

begins_at_cuts : {A : Type 0} (width : ℕ) (slots : List (Slot A)) (c : ℕ) (ds : List ℕ) → RisesTo c ds (length slots) → Each (IsLegalLine width) (lines_after slots c ds) →
    (k cut : ℕ) (s : Slot A) → k < length (c ∷ ds) → get_or (c ∷ ds) k cut ≡ cut → slice_get slots cut ≡ Some s → MayBegin s
begins_at_cuts {A} width slots c ds h legal zero cut s p q e = grind (arith, slot_begins, joined_after, joined_begins, slice_get-drop, slice_get)
begins_at_cuts width slots c [] h legal (suc k) cut s p q e = absurd (omega arith)
begins_at_cuts width slots c (d ∷ ds) h legal (suc k) cut s p q e = begins_at_cuts width slots d ds h.1 legal.1 k cut s (omega arith) q e

wider_at_cuts : {A : Type 0} (width : ℕ) (slots : List (Slot A)) (c : ℕ) (ds : List ℕ) → RisesTo c ds (length slots) → Each (IsLegalLine width) (lines_after slots c ds) →
    (place : ℕ) (s : Slot A) → c ≤ place → slice_get slots place ≡ Some s → BeginsWider s → Contains (c ∷ ds) place
wider_at_cuts width slots c [] h legal place s p e b = absurd (omega (arith, h, slice_get_within slots place s e))
wider_at_cuts {A} width slots c (d ∷ ds) h legal place s p e b =
    elim (cases_lt c place) [
      | inl after ↦ elim (cases_lt place d) [
        | inl before ↦ absurd (both_ways _ (not-true _ (inside (place - suc c) (omega arith) before)) b)
        | inr further ↦ later (wider_at_cuts width slots d ds h.1 legal.1 place s further e b)
      ]
      | inr same ↦ (0, omega arith, omega arith)
    ]
  where
    inside : (k : ℕ) → c + suc k ≡ place → place < d → MayFollow s
    inside k i q =
        follows_at (slice_range slots c d) k s legal.0.others
        (slot_of_line slots c d (suc k) h.0 (rises_below d (length slots) ds h.1) (omega arith) ∙ ap (slice_get slots) i ∙ e)

    later : Contains (d ∷ ds) place → Contains (c ∷ d ∷ ds) place
    later k = (suc k.0, omega (arith, k.1), k.2)

legal_lines : {A : Type 0} (width : ℕ) (slots : List (Slot A)) (ds : List ℕ) → IsLegalLayout width slots (0 ∷ ds) → IsLegal width slots (lines_after slots 0 ds)
legal_lines width slots ds h =
    let rises = rises_layout (length slots) ds h.layout in
    record {
      whole = joined_after slots 0 ds rises;
      each = lines_legal width slots 0 ds rises h.fits h.between_words (λ place s p e b. contains_later 0 ds place p (h.wider_at_cut place s e b));
    }

legal_cuts : {A : Type 0} (width : ℕ) (slots : List (Slot A)) (ds : List ℕ) → RisesTo 0 ds (length slots) → IsLegal width slots (lines_after slots 0 ds) → IsLegalLayout width slots (0 ∷ ds)
legal_cuts width slots ds rises h = record {
  layout = layout_rises (length slots) ds rises;
  fits = each_weaker (IsLegalLine width) (λ line. line_width line ≤ width) (λ line k. k.fits) (lines_after slots 0 ds) h.each;
  between_words = λ cut s k e. begins_at_cuts width slots 0 ds rises h.each k.0 cut s k.1 k.2 e;
  wider_at_cut = λ place s e b. wider_at_cuts width slots 0 ds rises h.each place s (omega arith) e b;
}

pub legal_alike : {A : Type 0} (width : ℕ) (slots : List (Slot A)) (cuts : List ℕ) → IsLegalLayout width slots cuts ↔ (IsLayout (length slots) cuts × IsLegal width slots (lines_between slots cuts))
legal_alike {A} width slots cuts = (
  λ h. (h.layout, by_rising (length slots) cuts (λ cs. IsLegalLayout width slots cs → IsLegal width slots (lines_between slots cs)) (λ ds rises k. legal_lines width slots ds k) h.layout h),
  λ h. by_rising (length slots) cuts (λ cs. IsLegal width slots (lines_between slots cs) → IsLegalLayout width slots cs) (λ ds rises k. legal_cuts width slots ds rises k) h.0 h.1,
)

-- ---- best

full_after : {X : Type 0} (xs : List X) (c : ℕ) (ds : List ℕ) → RisesTo c ds (length xs) → ((k : ℕ) → k < length ds → get_or (c ∷ ds) k 0 < get_or ds k 0) → HasNoEmptyLine (lines_after xs c ds)
full_after xs c [] h increases = tt
full_after xs c (d ∷ ds) h increases = (
  omega (arith, increases 0 (omega arith), length-line xs c d h.0 (rises_below d (length xs) ds h.1)),
  full_after xs d ds h.1 (λ k p. increases (suc k) (omega arith)),
)

increases_after : {X : Type 0} (xs : List X) (c : ℕ) (ds : List ℕ) → RisesTo c ds (length xs) → HasNoEmptyLine (lines_after xs c ds) → (k : ℕ) → k < length ds → get_or (c ∷ ds) k 0 < get_or ds k 0
increases_after xs c [] h full k p = absurd (omega arith)
increases_after xs c (d ∷ ds) h full zero p = omega (arith, full.0, length-line xs c d h.0 (rises_below d (length xs) ds h.1))
increases_after xs c (d ∷ ds) h full (suc k) p = increases_after xs d ds h.1 full.1 k (omega arith)

full_alike : {X : Type 0} (xs : List X) (cuts : List ℕ) → IsLayout (length xs) cuts → IsStrictlyIncreasing cuts ↔ HasNoEmptyLine (lines_between xs cuts)
full_alike xs cuts =
    by_rising (length xs) cuts (λ cs. IsStrictlyIncreasing cs ↔ HasNoEmptyLine (lines_between xs cs))
    (λ ds rises. (λ h. full_after xs 0 ds rises (λ k p. rw add-one at (h k (omega arith))), λ h k p. rw add-one (increases_after xs 0 ds rises h k (omega arith))))

-- the cuts of legal lines
pub others_cuts : {A : Type 0} (width : ℕ) (slots : List (Slot A)) (others : List (List (Slot A))) → IsLegal width slots others →
    IsLegalLayout width slots (cuts_of others) × (lines_between slots (cuts_of others) ≡ others)
others_cuts {A} width slots others other =
    let both : IsLayout (length slots) (cuts_of others) × (lines_between slots (cuts_of others) ≡ others) =
    subst (λ (xs : List (Slot A)). IsLayout (length xs) (cuts_of others) × (lines_between xs (cuts_of others) ≡ others)) other.whole (lines_again others) in
    ((legal_alike width slots (cuts_of others)).1 (both.0, subst (IsLegal width slots) (sym both.1) other), both.1)

ahead_of_lines : {A : Type 0} (width : ℕ) (slots : List (Slot A)) (cuts : List ℕ) → IsBestLayout width slots cuts →
    (others : List (List (Slot A))) → IsLegal width slots others → IsAhead (lines_between slots cuts) others
ahead_of_lines {A} width slots cuts h others other n =
    let theirs = others_cuts width slots others other in
    let a : placed n (lines_between slots (cuts_of others)) ≡ placed n others = ap (placed n) theirs.1 in
    let b = placed_alike slots (cuts_of others) n theirs.0.layout in
    let e = placed_alike slots cuts n h.legal.layout in
    let f = h.ahead (cuts_of others) theirs.0 n in
    omega arith

pub best_alike : {A : Type 0} (width : ℕ) (slots : List (Slot A)) (cuts : List ℕ) → IsBestLayout width slots cuts ↔ (IsLayout (length slots) cuts × IsBest width slots (lines_between slots cuts))
best_alike {A} width slots cuts = (
  λ h. (
    h.legal.layout,
    record {
      legal = ((legal_alike width slots cuts).0 h.legal).1;
      full = (full_alike slots cuts h.legal.layout).0 h.no_empty_line;
      ahead = ahead_of_lines width slots cuts h;
    },
  ),
  λ h. record {
    legal = (legal_alike width slots cuts).1 (h.0, h.1.legal);
    no_empty_line = (full_alike slots cuts h.0).1 h.1.full;
    ahead = λ others other n.
        let lines = ((legal_alike width slots others).0 other).1 in
        omega (arith, h.1.ahead (lines_between slots others) lines n, placed_alike slots others n other.layout, placed_alike slots cuts n h.0);
  },
)

-- ---- cuts that are tried one after another

-- what is left to try after a cut
abbrev pub LegalAfter : {A : Type 0} → ℕ → List (Slot A) → ℕ → List ℕ → Type 0
LegalAfter width slots c ds = RisesTo c ds (length slots) × Each (IsLegalLine width) (lines_after slots c ds)

pub legal_from_first : {A : Type 0} (width : ℕ) (slots : List (Slot A)) (ds : List ℕ) → IsLegalLayout width slots (0 ∷ ds) ↔ LegalAfter width slots 0 ds
legal_from_first width slots ds = (
  λ h. (rises_layout (length slots) ds h.layout, (legal_lines width slots ds h).each),
  λ h. legal_cuts width slots ds h.0 (record { whole = joined_after slots 0 ds h.0; each = h.1 }),
)

pub legal_on : {A : Type 0} (width : ℕ) (slots : List (Slot A)) (c d : ℕ) (ds : List ℕ) → c ≤ d → IsLegalLine width (slice_range slots c d) →
    LegalAfter width slots c (d ∷ ds) ↔ LegalAfter width slots d ds
legal_on width slots c d ds h legal = (λ k. (k.0.1, k.1.1), λ k. ((h, k.0), (legal, k.1)))

-- ---- the first gap

first_gap_lines : {A : Type 0} (width : ℕ) (s : Slot A) (gap : Option A) (ss : List (Slot A)) (c : ℕ) (lines : List (List (Slot A))) → joined lines ≡ s ∷ ss → Each (IsLegalLine width) lines →
    (others : List (List (Slot A))) × (joined others ≡ with_gap s gap ∷ ss) × Each (IsLegalLine width) others × (map line_text others ≡ map line_text lines) × (ends_of c others ≡ ends_of c lines)
first_gap_lines width s gap ss c [] e h = cc
first_gap_lines {A} width s gap ss c ([] ∷ ls) e h =
    let none : c + 0 ≡ c = omega arith in
    let w = first_gap_lines width s gap ss (c + 0) ls e h.1 in
    (let l : List (Slot A) = [] in l ∷ w.0, w.1, (h.0, w.2), ap (λ ts. [] ∷ ts) w.3, ap (λ es. (c + 0) ∷ es) w.4)
first_gap_lines {A} width s gap ss c ((t ∷ l) ∷ ls) e h =
    let same : t ≡ s = cc in
    let rest : l ++ joined ls ≡ ss = cc in
    let text : line_text (with_gap s gap ∷ l) ≡ line_text (t ∷ l) = ap (λ (u : Slot A). line_text (u ∷ l)) (sym same) in (
      (with_gap s gap ∷ l) ∷ ls,
      ap (λ (r : List (Slot A)). with_gap s gap ∷ r) rest,
      ((let legal : IsLegalLine width (s ∷ l) = rw same at h.0 in record { fits = legal.fits; first = legal.first; others = legal.others }), h.1),
      ap (λ (x : List _). x ∷ map line_text ls) text,
      refl,
    )

pub first_gap : {A : Type 0} (width : ℕ) (s : Slot A) (gap : Option A) (ss : List (Slot A)) (cuts : List ℕ) → IsLegalLayout width (s ∷ ss) cuts →
    IsLegalLayout width (with_gap s gap ∷ ss) cuts × (map line_text (lines_between (with_gap s gap ∷ ss) cuts) ≡ map line_text (lines_between (s ∷ ss) cuts))
first_gap {A} width s gap ss cuts h =
    let both = (legal_alike width (s ∷ ss) cuts).0 h in
    let w = first_gap_lines width s gap ss 0 (lines_between (s ∷ ss) cuts) both.1.whole both.1.each in
    let theirs = others_cuts width (with_gap s gap ∷ ss) w.0 (record { whole = w.1; each = w.2 }) in
    let same : cuts_of w.0 ≡ cuts = ap (λ (es : List ℕ). 0 ∷ es) w.4 ∙ cuts_again (s ∷ ss) cuts both.0 in
    (subst (IsLegalLayout width (with_gap s gap ∷ ss)) same theirs.0, ap (λ (cs : List ℕ). map line_text (lines_between (with_gap s gap ∷ ss) cs)) (sym same) ∙ (ap (map line_text) theirs.1 ∙ w.3))

pub ruleset cut_laws = (lines_joined, line_of, cuts_again, placed_alike)
