-- A greedy layout is ahead of every legal one.
use Rattle.tbr_model.proofs.Common.{◌≡◌, ℕ, zero, suc, ◌+◌, ◌<◌, ◌≤◌, List, [], ◌∷◌, ◌++◌, length, take, refl, ap, sym, ◌∙◌, inl, inr, arith, length-append, append_assoc, subst, Each, Slot, joined}
use Rattle.tbr_model.proofs.Common.{placed, line_width, rest_width, MayFollow, FirstMayBegin, OthersMayFollow, IsLegalLine, IsLegal, IsLongest, IsGreedy, HasNoEmptyLine, IsAhead, IsBest}
use Rattle.std.proofs.Common.{zero-add}
use Rattle.tbr_model.proofs.lists.Each.{each_back}
use Rattle.tbr_model.proofs.lists.Joined.{cut_twice, placed_le, placed_all}

pub rest_width-append : {A : Type 0} (a b : List (Slot A)) → rest_width (a ++ b) ≡ rest_width a + rest_width b
rest_width-append [] b = omega arith
rest_width-append (s ∷ a) b = omega (arith, rest_width-append a b)

-- a part of a line is no wider than the line
pub line_width_back : {A : Type 0} (a b : List (Slot A)) → line_width b ≤ line_width (a ++ b)
line_width_back [] b = omega arith
line_width_back (s ∷ a) [] = omega arith
line_width_back (s ∷ a) (t ∷ b) = omega (arith, rest_width-append a (t ∷ b))

-- after the first item of a line all may follow
pub others_back : {A : Type 0} (a b : List (Slot A)) → OthersMayFollow (a ++ b) → OthersMayFollow b
others_back [] b h = h
others_back (s ∷ a) [] h = tt
others_back (s ∷ a) (t ∷ b) h = (each_back MayFollow a (t ∷ b) h).1

first_front : {A : Type 0} (a b : List (Slot A)) → 0 < length a → FirstMayBegin a → FirstMayBegin (a ++ b)
first_front [] b p h = absurd (omega arith)
first_front (s ∷ a) b p h = h

-- the first item of all lines begins a line
pub joined_begins : {A : Type 0} (width : ℕ) (ls : List (List (Slot A))) → Each (IsLegalLine width) ls → FirstMayBegin (joined ls)
joined_begins width [] h = tt
joined_begins width ([] ∷ ls) h = joined_begins width ls h.1
joined_begins width ((s ∷ l) ∷ ls) h = h.0.first

-- a legal line that begins no later ends no later than one that is as long as it can be
no_further : {A : Type 0} (width : ℕ) (d l rest m others : List (Slot A)) →
    m ++ others ≡ d ++ (l ++ rest) → 0 < length l → FirstMayBegin l → IsLongest width l rest → IsLegalLine width m → FirstMayBegin others →
    (z : List (Slot A)) × (d ++ l ≡ m ++ z) × (others ≡ z ++ rest)
no_further {A} width d l rest m others e nonempty begins longest legal starts =
    elim (cut_twice m others (d ++ l) rest (e ∙ sym (append_assoc d l rest))) [
      | inl w ↦ w
      | inr w ↦
          let more : List (Slot A) = w.0 ∷ w.1 in
          let is : m ≡ d ++ (l ++ more) = w.2 ∙ append_assoc d l more in
          let fits : line_width (d ++ (l ++ more)) ≤ width = subst (λ (x : List (Slot A)). line_width x ≤ width) is legal.fits in
          let follow : OthersMayFollow (d ++ (l ++ more)) = subst OthersMayFollow is legal.others in
          absurd (longest more others (sym w.3) (omega arith) starts (record {
            fits = omega (arith, line_width_back d (l ++ more), fits);
            first = first_front l more nonempty begins;
            others = others_back d (l ++ more) follow;
          }))
    ]

-- a legal layout that has still to place d, and then the same, never gets ahead
never_ahead : {A : Type 0} (width n : ℕ) (d : List (Slot A)) (ls ms : List (List (Slot A))) →
    joined ms ≡ d ++ joined ls → Each (IsLegalLine width) ls → HasNoEmptyLine ls → IsGreedy width ls → Each (IsLegalLine width) ms →
    placed n ms ≤ length d + placed n ls
never_ahead width zero d ls ms e legal full greedy others = omega arith
never_ahead width (suc n) d ls [] e legal full greedy others = omega arith
never_ahead width (suc n) d [] (m ∷ ms) e legal full greedy others =
    omega (arith, placed_le (suc n) (m ∷ ms), ap length e, length-append d [])
never_ahead {A} width (suc n) d (l ∷ ls) (m ∷ ms) e legal full greedy others =
    let w = no_further width d l (joined ls) m (joined ms) e full.0 legal.0.first greedy.0 others.0 (joined_begins width ms others.1) in
    let next : placed n ms ≤ length w.0 + placed n ls = never_ahead width n w.0 ls ms w.2 legal.1 full.1 greedy.1 others.1 in
    omega (arith, next, ap length w.1, length-append d l, length-append m w.0, length-append m (joined (take n ms)), length-append l (joined (take n ls)))

pub greedy_best : {A : Type 0} (width : ℕ) (slots : List (Slot A)) (lines : List (List (Slot A))) →
    IsLegal width slots lines → HasNoEmptyLine lines → IsGreedy width lines → IsBest width slots lines
greedy_best width slots lines legal full greedy = record {
  legal = legal;
  full = full;
  ahead = λ others other n. rw zero-add at (never_ahead width n [] lines others (other.whole ∙ sym legal.whole) legal.each full greedy other.each);
}

-- lines without an empty one that hold nothing are none
pub none_left : {X : Type 0} (ls : List (List X)) → HasNoEmptyLine ls → length (joined ls) ≡ 0 → length ls ≡ 0
none_left [] full e = refl
none_left (l ∷ ls) full e = absurd (omega (arith, length-append l (joined ls), full.0))

few : {X : Type 0} (n : ℕ) (ls : List (List X)) → HasNoEmptyLine ls → length (joined ls) ≤ placed n ls → length ls ≤ n
few zero ls full h = omega (arith, none_left ls full (omega arith))
few (suc n) [] full h = omega arith
few (suc n) (l ∷ ls) full h =
    omega (arith, few n ls full.1 (omega (arith, h, length-append l (joined ls), length-append l (joined (take n ls)))))

pub fewest : {A : Type 0} (width : ℕ) (slots : List (Slot A)) (lines others : List (List (Slot A))) →
    IsBest width slots lines → IsLegal width slots others → length lines ≤ length others
fewest width slots lines others best other =
    few (length others) lines best.full (omega (arith, best.ahead others other (length others), placed_all others, ap length other.whole, ap length best.legal.whole))

-- two ways to cut a list at one place are one
pub cut_once : {X : Type 0} (a b c e : List X) → a ++ b ≡ c ++ e → length a ≡ length c → (a ≡ c) × (b ≡ e)
cut_once [] b [] e h len = (refl, h)
cut_once [] b (y ∷ c) e h len = absurd (omega arith)
cut_once (x ∷ a) b [] e h len = absurd (omega arith)
cut_once (x ∷ a) b (y ∷ c) e h len =
    let same : x ≡ y = cc in
    let rest : a ++ b ≡ c ++ e = cc in
    let both = cut_once a b c e rest (omega arith) in
    ((let p : a ≡ c = both.0 in cc), both.1)

-- two such lists of lines that are each ahead of the other are one
same_lines : {X : Type 0} (ls ms : List (List X)) → joined ms ≡ joined ls → HasNoEmptyLine ls → HasNoEmptyLine ms → IsAhead ls ms → IsAhead ms ls → ms ≡ ls
same_lines [] [] e p q f g = refl
same_lines [] (m ∷ ms) e p q f g = absurd (omega (arith, ap length e, length-append m (joined ms), q.0))
same_lines (l ∷ ls) [] e p q f g = absurd (omega (arith, ap length e, length-append l (joined ls), p.0))
same_lines {X} (l ∷ ls) (m ∷ ms) e p q f g =
    let len : length m ≡ length l = omega (arith, f 1, g 1, length-append m [], length-append l []) in
    let cut = cut_once m (joined ms) l (joined ls) e len in
    let first : m ≡ l = cut.0 in
    let after : (n : ℕ) → (placed (suc n) (m ∷ ms) ≡ length m + placed n ms) × (placed (suc n) (l ∷ ls) ≡ length l + placed n ls) =
    λ n. (length-append m (joined (take n ms)), length-append l (joined (take n ls))) in
    let rest : ms ≡ ls = same_lines ls ms cut.1 p.1 q.1
    (λ n. omega (arith, f (suc n), (after n).0, (after n).1, len))
    (λ n. omega (arith, g (suc n), (after n).0, (after n).1, len)) in
    cc

pub unique : {A : Type 0} (width : ℕ) (slots : List (Slot A)) (lines others : List (List (Slot A))) →
    IsBest width slots lines → IsBest width slots others → others ≡ lines
unique width slots lines others best other =
    same_lines lines others (other.legal.whole ∙ sym best.legal.whole) best.full other.full (best.ahead others other.legal) (other.ahead lines best.legal)
