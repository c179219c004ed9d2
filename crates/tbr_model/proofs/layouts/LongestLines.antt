-- A layout of longest lines is the best one, and a walk over longest lines makes it.
use Rattle.tbr_model.proofs.Common.{◌≡◌, ℕ, ◌+◌, ◌-◌, ◌<◌, ◌≤◌, ◌↔◌, Bool, true, false, IsTrue, Option, Some, None, is_some, MatchOption, List, [], ◌∷◌, ◌++◌, length, take, drop, refl, ap, sym, ◌∙◌}
use Rattle.tbr_model.proofs.Common.{inl, inr, arith, length-append, length-drop, subst, take-append-drop, drop-drop, take_at, drop_of_length-le, slice_range, append_assoc, append-nil, drop_at, Each}
use Rattle.tbr_model.proofs.Common.{cases_lt, Slot, joined, line_width, FirstMayBegin, OthersMayFollow, IsLegalLine, IsLegal, IsLongest, IsGreedy, HasNoEmptyLine, cuts_of, HasLegalLayout, lines_after}
use Rattle.tbr_model.proofs.Common.{IsBestLayout, TellsRests, take-add}
use Rattle.std.proofs.Common.{slice_index_or}
use Rattle.std.proofs.lemmas.List.{get_or_push, get_or_append_left}
use Rattle.tbr_model.specs.Longest.{IsLongestLine}
use Rattle.tbr_model.proofs.lists.Joined.{cut_twice, joined-append}
use Rattle.tbr_model.proofs.layouts.Ahead.{line_width_back, others_back, greedy_best}
use Rattle.tbr_model.proofs.layouts.Cuts.{legal_alike, others_cuts, RisesTo, joined_after, length-line, layout_rises, line_and_rest, best_alike}
use Rattle.tbr_model.proofs.lists.Each.{each_append}

-- ---- which slots have a legal layout

pub has_lines : {A : Type 0} (width : ℕ) (slots : List (Slot A)) → HasLegalLayout width slots → (lines : List (List (Slot A))) × IsLegal width slots lines
has_lines width slots h = (_, ((legal_alike width slots h.0).0 h.1).1)

pub has_cuts : {A : Type 0} (width : ℕ) (slots : List (Slot A)) (lines : List (List (Slot A))) → IsLegal width slots lines → HasLegalLayout width slots
has_cuts width slots lines h = (cuts_of lines, (others_cuts width slots lines h).0)

-- what is after a place where a line may begin
suffix_lines : {A : Type 0} (width : ℕ) (a b : List (Slot A)) (lines : List (List (Slot A))) → joined lines ≡ a ++ b → Each (IsLegalLine width) lines → FirstMayBegin b →
    (others : List (List (Slot A))) × IsLegal width b others
suffix_lines width [] b lines e h starts = (lines, record { whole = e; each = h })
suffix_lines width (s ∷ a) b [] e h starts = cc
suffix_lines {A} width (s ∷ a) b (l ∷ ls) e h starts =
    elim (cut_twice l (joined ls) (s ∷ a) b e) [
      | inl w ↦ suffix_lines width w.0 b ls w.2 h.1 starts
      | inr w ↦ (
        (w.0 ∷ w.1) ∷ ls,
        record {
          whole = sym w.3;
          each = (
            record {
              fits = omega (arith, h.0.fits, line_width_back (s ∷ a) (w.0 ∷ w.1), ap line_width w.2);
              first = subst FirstMayBegin w.3 starts;
              others = others_back (s ∷ a) (w.0 ∷ w.1) (subst OthersMayFollow w.2 h.0.others);
            },
            h.1,
          );
        },
      )
    ]

pub suffix_legal : {A : Type 0} (width : ℕ) (a b : List (Slot A)) → HasLegalLayout width (a ++ b) → FirstMayBegin b → HasLegalLayout width b
suffix_legal {A} width a b h starts =
    let w = has_lines width (a ++ b) h in
    let v = suffix_lines width a b w.0 w.1.whole w.1.each starts in
    has_cuts width b v.0 v.1

pub line_before : {A : Type 0} (width : ℕ) (slots : List (Slot A)) (end : ℕ) → IsLegalLine width (take end slots) → HasLegalLayout width (drop end slots) → HasLegalLayout width slots
line_before {A} width slots end legal rest =
    let w = has_lines width (drop end slots) rest in
    has_cuts width slots (take end slots ∷ w.0) (record {
      whole = ap (λ (l : List (Slot A)). take end slots ++ l) w.1.whole ∙ take-append-drop end slots;
      each = (legal, w.1.each);
    })

-- some legal line is first
first_line : {A : Type 0} (width : ℕ) (slots : List (Slot A)) (lines : List (List (Slot A))) → IsLegal width slots lines → 0 < length slots →
    (end : ℕ) × (0 < end) × (end ≤ length slots) × IsLegalLine width (take end slots) × HasLegalLayout width (drop end slots)
first_line width slots [] h some = absurd (omega (arith, ap length h.whole))
first_line width slots ([] ∷ ls) h some = first_line width slots ls (record { whole = h.whole; each = h.each.1 }) some
first_line {A} width slots ((s ∷ l) ∷ ls) h some =
    let front : take (length (s ∷ l)) slots ≡ s ∷ l = ap (take (length (s ∷ l))) (sym h.whole) ∙ take_at (s ∷ l) (joined ls) (length (s ∷ l)) refl in
    let back : drop (length (s ∷ l)) slots ≡ joined ls = ap (drop (length (s ∷ l))) (sym h.whole) ∙ drop_at (s ∷ l) (joined ls) (length (s ∷ l)) refl in (
      length (s ∷ l),
      omega arith,
      omega (arith, ap length h.whole, length-append (s ∷ l) (joined ls)),
      subst (IsLegalLine width) (sym front) h.each.0,
      subst (HasLegalLayout width) (sym back) (has_cuts width (joined ls) ls (record { whole = refl; each = h.each.1 })),
    )

abbrev pub EndsLine : {A : Type 0} → ℕ → List (Slot A) → ℕ → Type 0
EndsLine width slots end = IsLegalLine width (take end slots) × HasLegalLayout width (drop end slots)

pub no_line : {A : Type 0} (width : ℕ) (slots : List (Slot A)) → ((e : ℕ) → 0 < e → e ≤ length slots → ¬ EndsLine width slots e) → 0 < length slots → ¬ HasLegalLayout width slots
no_line width slots h some legal =
    let lines = has_lines width slots legal in
    let w = first_line width slots lines.0 lines.1 some in
    h w.0 w.1 w.2 (w.3, w.4)

pub longest_end_line : {A : Type 0} (width : ℕ) (slots : List (Slot A)) (end : ℕ) → 0 < end → end ≤ length slots → EndsLine width slots end →
    ((e : ℕ) → end < e → e ≤ length slots → ¬ EndsLine width slots e) → IsLongestLine width slots end
longest_end_line {A} width slots end some within h none = record {
  some = some;
  within = within;
  legal = h.0;
  rest = h.1;
  longest = λ more others e p starts legal.
      let front : take (end + length more) slots ≡ take end slots ++ more = take-add end (length more) slots
      ∙ ap (λ (l : List (Slot A)). take end slots ++ l) (ap (take (length more)) (sym e) ∙ take_at more others (length more) refl) in
      let back : drop (end + length more) slots ≡ others = sym (drop-drop (length more) end slots) ∙ ap (drop (length more)) (sym e) ∙ drop_at more others (length more) refl in
      let rest : HasLegalLayout width (more ++ others) = subst (HasLegalLayout width) (sym e) h.1 in
      none (end + length more) (omega arith) (omega (arith, ap length e, length-append more others, length-drop end slots))
      (subst (IsLegalLine width) (sym front) legal, subst (HasLegalLayout width) (sym back) (suffix_legal width more others rest starts));
}

-- ---- by places

pub none_more : (P : ℕ → Type 0) (m n end : ℕ) → end ≡ m → ((e : ℕ) → m < e → e ≤ n → ¬ P e) → ¬ P end → (e : ℕ) → m - 1 < e → e ≤ n → ¬ P e
none_more P m n end same h here e p q k = grind (arith, cases_lt)

pub rest_solved : {A : Type 0} (width n : ℕ) (slots : List (Slot A)) (solved : List Bool) → TellsRests width slots n solved → n ≡ length slots → (end : ℕ) → 0 < end → end ≤ n →
    IsTrue (slice_index_or solved (n - end) false) ↔ HasLegalLayout width (drop end slots)
rest_solved {A} width n slots solved h long end some within =
    subst (λ k. IsTrue (slice_index_or solved (n - end) false) ↔ HasLegalLayout width (drop k slots)) (let e : length slots - (n - end) ≡ end = omega arith in e) (h.at (n - end) (omega arith))

-- nothing is left
pub tells_first : {A : Type 0} (width : ℕ) (slots : List (Slot A)) (solved : List Bool) → solved ≡ true ∷ [] → TellsRests width slots 1 solved
tells_first {A} width slots solved e = record {
  long = omega (arith, ap length e);
  at = λ k h. let none : drop (length slots - k) slots ≡ [] = drop_of_length-le slots (omega arith) in
      let yes : slice_index_or solved k false ≡ true = ap (λ (l : List Bool). slice_index_or l k false) e
      ∙ (let first : k ≡ 0 = omega arith in ap (λ (i : ℕ). slice_index_or (true ∷ []) i false) first) in
      (λ _. subst (HasLegalLayout width) (sym none) (has_cuts width [] [] (record { whole = refl; each = tt })), λ _. yes);
}

pub tells_more : {A : Type 0} (width : ℕ) (slots : List (Slot A)) (n : ℕ) (solved : List Bool) (b : Bool) → TellsRests width slots n solved → length solved ≡ n →
    (IsTrue b ↔ HasLegalLayout width (drop (length slots - n) slots)) → TellsRests width slots (n + 1) (solved ++ b ∷ [])
tells_more {A} width slots n solved b h long new = grind (arith, length-append, cases_lt, get_or_append_left, get_or_push)

-- of later slots
pub tells_later : {A : Type 0} (width : ℕ) (slots : List (Slot A)) (n from : ℕ) (solved : List Bool) → TellsRests width slots n solved → from ≤ length slots → length slots - from ≤ n →
    TellsRests width (drop from slots) (length slots - from) solved
tells_later {A} width slots n from solved h within enough = grind (arith, length-drop, drop-drop)

pub legal_if_found : {A : Type 0} (width n : ℕ) (slots : List (Slot A)) (found : Option ℕ) (b : Bool) → 0 < n → b ≡ is_some found →
    MatchOption found (0 < n → ¬ HasLegalLayout width slots) (IsLongestLine width slots) → IsTrue b ↔ HasLegalLayout width slots
legal_if_found width n slots None b some e h = (λ t. cc, λ k. absurd (h some k))
legal_if_found width n slots (Some end) b some e h = (λ t. line_before width slots end h.legal h.rest, λ k. e)

-- lines are as long as can be, before what is left
abbrev pub GreedyBefore : {A : Type 0} → ℕ → List (List (Slot A)) → List (Slot A) → Type 0
GreedyBefore width [] left = Unit {0}
GreedyBefore width (l ∷ ls) left = IsLongest width l (joined ls ++ left) × GreedyBefore width ls left

greedy_more : {A : Type 0} (width : ℕ) (ls : List (List (Slot A))) (l left : List (Slot A)) → GreedyBefore width ls (l ++ left) → IsLongest width l left → GreedyBefore width (ls ++ l ∷ []) left
greedy_more width [] l left h k = (k, tt)
greedy_more {A} width (m ∷ ls) l left h k = (
  (let e : joined ls ++ (l ++ left) ≡ joined (ls ++ l ∷ []) ++ left = simp (joined-append, append_assoc, append-nil) in subst (λ (r : List (Slot A)). IsLongest width m r) e h.0),
  greedy_more width ls l left h.1 k,
)

greedy_all : {A : Type 0} (width : ℕ) (ls : List (List (Slot A))) → GreedyBefore width ls [] → IsGreedy width ls
greedy_all width [] h = tt
greedy_all {A} width (l ∷ ls) h = (subst (λ (r : List (Slot A)). IsLongest width l r) (append-nil (joined ls)) h.0, greedy_all width ls h.1)

rises_more : (c n d : ℕ) (ds : List ℕ) → RisesTo c ds n → n ≤ d → RisesTo c (ds ++ d ∷ []) d
rises_more c n d [] h k = (omega arith, refl)
rises_more c n d (e ∷ ds) h k = (h.0, rises_more e n d ds h.1 k)

lines_more : {X : Type 0} (xs : List X) (c n d : ℕ) (ds : List ℕ) → RisesTo c ds n → lines_after xs c (ds ++ d ∷ []) ≡ lines_after xs c ds ++ slice_range xs n d ∷ []
lines_more {X} xs c n d [] h = ap (λ k. let ls : List (List X) = slice_range xs k d ∷ [] in ls) h
lines_more xs c n d (e ∷ ds) h = ap (λ ls. slice_range xs c e ∷ ls) (lines_more xs e n d ds h.1)

-- The cuts so far, up to a position.
pub record CutsSoFar {A : Type 0} (width : ℕ) (slots : List (Slot A)) (cuts : List ℕ) (from : ℕ) : Type 0 where
  pub later : List ℕ
  pub is : cuts ≡ 0 ∷ later
  pub rises : RisesTo 0 later from
  pub within : from ≤ length slots
  pub legal : Each (IsLegalLine width) (lines_after slots 0 later)
  pub full : HasNoEmptyLine (lines_after slots 0 later)
  pub greedy : GreedyBefore width (lines_after slots 0 later) (drop from slots)
  pub left : HasLegalLayout width slots → HasLegalLayout width (drop from slots)

pub next_cut : {A : Type 0} (width : ℕ) (slots : List (Slot A)) (cuts : List ℕ) (from end : ℕ) → CutsSoFar width slots cuts from → IsLongestLine width (drop from slots) end →
    CutsSoFar width slots (cuts ++ (from + end) ∷ []) (from + end)
next_cut {A} width slots cuts from end h line = record {
  later = h.later ++ to ∷ [];
  is = ap (λ (l : List ℕ). l ++ to ∷ []) h.is;
  rises = rises_more 0 from to h.later h.rises (omega arith);
  within = omega (arith, line.within, length-drop from slots, h.within);
  legal = rw more (each_append (IsLegalLine width) (lines_after slots 0 h.later) (new ∷ []) h.legal (subst (IsLegalLine width) (sym taken) line.legal, tt));
  full =
      rw more
      (each_append (λ l. 0 < length l) (lines_after slots 0 h.later) (new ∷ []) h.full
      (omega (arith, line.some, length-line slots from to (omega arith) (omega (arith, line.within, length-drop from slots, h.within))), tt));
  greedy = rw more (greedy_more width (lines_after slots 0 h.later) new (drop to slots)
      (subst (GreedyBefore width (lines_after slots 0 h.later)) (sym (line_and_rest slots from to (omega arith))) h.greedy)
      (subst (λ (l : List (Slot A)). IsLongest width l (drop to slots)) (sym taken) (subst (IsLongest width (take end (drop from slots))) after line.longest)));
  left = λ _. subst (HasLegalLayout width) after line.rest;
}
  where
    to : ℕ
    to = from + end

    new : List (Slot A)
    new = slice_range slots from to

    taken : new ≡ take end (drop from slots)
    taken = ap (λ k. take k (drop from slots)) (let e : to - from ≡ end = omega arith in e)

    after : drop end (drop from slots) ≡ drop to slots
    after = drop-drop end from slots

    more : lines_after slots 0 (h.later ++ to ∷ []) ≡ lines_after slots 0 h.later ++ new ∷ []
    more = lines_more slots 0 from to h.later h.rises

pub last_cut : {A : Type 0} (width : ℕ) (slots : List (Slot A)) (cuts : List ℕ) (from : ℕ) → CutsSoFar width slots cuts from → length slots ≤ from → IsBestLayout width slots cuts
last_cut {A} width slots cuts from h all =
    let rises : RisesTo 0 h.later (length slots) = subst (RisesTo 0 h.later) (omega (arith, h.within)) h.rises in
    let none : drop from slots ≡ [] = drop_of_length-le slots all in
    let legal : IsLegal width slots (lines_after slots 0 h.later) = record { whole = joined_after slots 0 h.later rises; each = h.legal } in
    let best =
    greedy_best width slots (lines_after slots 0 h.later) legal h.full
    (greedy_all width (lines_after slots 0 h.later)
    (subst (GreedyBefore width (lines_after slots 0 h.later)) none h.greedy)) in
    subst (IsBestLayout width slots) (sym h.is) ((best_alike width slots (0 ∷ h.later)).1 (layout_rises (length slots) h.later rises, best))
