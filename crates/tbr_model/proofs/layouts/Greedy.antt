-- The layout that places each word where it fits, and why it is best.
use Rattle.tbr_model.proofs.Common.{◌≡◌, ℕ, ◌<◌, ◌≤◌, true, false, not, ◌&&◌, ◌||◌, nat_le, IsTrue, List, [], ◌∷◌, ◌++◌, length, refl, ap, sym, ◌∙◌, inl, inr, arith, length-append, append_assoc}
use Rattle.tbr_model.proofs.Common.{append-nil, subst, leb-true, leb-false, Each, or_right, cond_both, both_ways, not-true, Slot, joined, line_width, MayFollow, FirstMayBegin, IsLegalLine, IsLongest}
use Rattle.tbr_model.proofs.Common.{IsGreedy, HasNoEmptyLine, close, Lines, fill}
use Rattle.std.proofs.Common.{IsFalse}
use Rattle.tbr_model.proofs.lists.Joined.{cut_twice, joined-append}
use Rattle.tbr_model.proofs.lists.Each.{each_back, each_append}
use Rattle.tbr_model.proofs.layouts.Ahead.{rest_width-append}

-- ---- what no later item can change

-- whatever follows the rest
abbrev pub StaysLongest : {A : Type 0} → ℕ → List (Slot A) → List (Slot A) → Type 0
StaysLongest {A} width line rest = (more : List (Slot A)) → IsLongest width line (rest ++ more)

abbrev pub Sealed : {A : Type 0} → ℕ → List (List (Slot A)) → List (Slot A) → Type 0
Sealed width [] last = Unit {0}
Sealed width (l ∷ ls) last = StaysLongest width l (joined ls ++ last) × Sealed width ls last

sealed_more : {A : Type 0} (width : ℕ) (ls : List (List (Slot A))) (last u : List (Slot A)) → Sealed width ls last → Sealed width ls (last ++ u)
sealed_more width [] last u h = tt
sealed_more {A} width (l ∷ ls) last u h = (
  λ more. let e : (joined ls ++ last) ++ (u ++ more) ≡ (joined ls ++ (last ++ u)) ++ more = simp append_assoc in
      subst (λ (r : List (Slot A)). IsLongest width l r) e (h.0 (u ++ more)),
  sealed_more width ls last u h.1,
)

sealed_close : {A : Type 0} (width : ℕ) (ls : List (List (Slot A))) (last u : List (Slot A)) →
    Sealed width ls last → StaysLongest width last u → Sealed width (ls ++ last ∷ []) u
sealed_close width [] last u h k = (k, tt)
sealed_close {A} width (l ∷ ls) last u h k = (
  λ more. let e : (joined ls ++ last) ++ (u ++ more) ≡ (joined (ls ++ last ∷ []) ++ u) ++ more = simp (joined-append, append_assoc, append-nil) in
      subst (λ (r : List (Slot A)). IsLongest width l r) e (h.0 (u ++ more)),
  sealed_close width ls last u h.1 k,
)

pub greedy_close : {A : Type 0} (width : ℕ) (ls : List (List (Slot A))) (last : List (Slot A)) → Sealed width ls last → IsGreedy width (close ls last)
greedy_close width [] [] h = tt
greedy_close width [] (s ∷ last) h = (λ more others e p starts. absurd (omega (arith, ap length e, length-append more others)), tt)
greedy_close {A} width (l ∷ ls) [] h = (
  (let e : (joined ls ++ []) ++ [] ≡ joined ls = simp append-nil in subst (λ (r : List (Slot A)). IsLongest width l r) e (h.0 [])),
  greedy_close width ls [] h.1,
)
greedy_close {A} width (l ∷ ls) (s ∷ last) h = (
  (let e : (joined ls ++ (s ∷ last)) ++ [] ≡ joined (ls ++ (s ∷ last) ∷ []) = simp (joined-append, append_assoc, append-nil) in
      subst (λ (r : List (Slot A)). IsLongest width l r) e (h.0 [])),
  greedy_close width ls (s ∷ last) h.1,
)

-- ---- when a line is longest

pub line_width_front : {A : Type 0} (a b : List (Slot A)) → line_width a ≤ line_width (a ++ b)
line_width_front [] b = omega arith
line_width_front (s ∷ a) b = omega (arith, rest_width-append a b)

abbrev pub MayNotBegin : {A : Type 0} → Slot A → Type 0
MayNotBegin s = IsFalse (s.begins || s.wider)

within : {A : Type 0} (t : Slot A) (v r more others z : List (Slot A)) → (t ∷ v) ≡ more ++ z → 0 < length more → Each MayNotBegin v →
    others ≡ z ++ r → FirstMayBegin others → z ≡ []
within t v r [] others z e p not_begin o starts = absurd (omega arith)
within t v r (m ∷ more) others [] e p not_begin o starts = refl
within {A} t v r (m ∷ more) others (y ∷ z) e p not_begin o starts =
    let rest : v ≡ more ++ (y ∷ z) = cc in
    let no : Each MayNotBegin (more ++ (y ∷ z)) = subst (Each MayNotBegin) rest not_begin in
    let begins : FirstMayBegin ((y ∷ z) ++ r) = subst FirstMayBegin o starts in
    let hers : MayNotBegin y = (each_back MayNotBegin more (y ∷ z) no).0 in
    absurd (let b : (y.begins || y.wider) ≡ true = begins in let n : (y.begins || y.wider) ≡ false = hers in cc)

-- the next unit doesn't fit
pub stays_by_unit : {A : Type 0} (width : ℕ) (l : List (Slot A)) (t : Slot A) (v : List (Slot A)) →
    width < line_width (l ++ (t ∷ v)) → Each MayNotBegin v → StaysLongest width l (t ∷ v)
stays_by_unit {A} width l t v wide not_begin r more others e p starts legal =
    elim (cut_twice more others (t ∷ v) r e) [
      | inl w ↦
          let none : w.0 ≡ [] = within t v r more others w.0 w.1 p not_begin w.2 starts in
          let all : (t ∷ v) ≡ more = w.1 ∙ ap (λ (z : List (Slot A)). more ++ z) none ∙ append-nil more in
          absurd (omega (arith, wide, legal.fits, ap (λ (x : List (Slot A)). line_width (l ++ x)) all))
      | inr w ↦
          let long : l ++ more ≡ (l ++ (t ∷ v)) ++ (w.0 ∷ w.1) = ap (λ (x : List (Slot A)). l ++ x) w.2 ∙ sym (append_assoc l (t ∷ v) (w.0 ∷ w.1)) in
          absurd (omega (arith, wide, legal.fits, ap line_width long, line_width_front (l ++ (t ∷ v)) (w.0 ∷ w.1)))
    ]

-- a wider word comes next
pub stays_by_wider : {A : Type 0} (width : ℕ) (l : List (Slot A)) (t : Slot A) (v : List (Slot A)) → 0 < length l → IsTrue (t.begins && t.wider) →
    StaysLongest width l (t ∷ v)
stays_by_wider width [] t v some wide r more others e p starts legal = absurd (omega arith)
stays_by_wider width (s ∷ l) t v some wide r [] others e p starts legal = absurd (omega arith)
stays_by_wider width (s ∷ l) t v some wide r (m ∷ more) others e p starts legal =
    let same : m ≡ t = cc in
    let follows : MayFollow m = (each_back MayFollow l (m ∷ more) legal.others).0 in
    absurd (let b : (m.begins && m.wider) ≡ true = rw same wide in let n : not (m.begins && m.wider) ≡ true = follows in both_ways _ (not-true _ n) b)

-- ---- placing

-- What is kept while words are placed, of the slots that were placed.
pub record HoldsSlots {A : Type 0} (width : ℕ) (slots : List (Slot A)) (lines : Lines A) : Type 0 where
  pub whole : joined lines.done ++ lines.last ≡ slots
  pub each : Each (IsLegalLine width) lines.done
  pub full : HasNoEmptyLine lines.done
  pub closed : Sealed width lines.done lines.last
  pub legal : IsLegalLine width lines.last

-- inside a wider word, each item narrow enough
abbrev pub InWider : {A : Type 0} → ℕ → Slot A → Type 0
InWider width s = (s.begins ≡ false) × (s.wider ≡ true) × (s.width ≤ width)

-- the open line, longer
pub longer : {A : Type 0} (width : ℕ) (last v : List (Slot A)) → 0 < length last → IsLegalLine width last → line_width (last ++ v) ≤ width → Each MayFollow v →
    IsLegalLine width (last ++ v)
longer width [] v some legal fits follow = absurd (omega arith)
longer width (s ∷ last) v some legal fits follow = record { fits = fits; first = legal.first; others = each_append MayFollow last v legal.others follow }

pub longer_holds_slots : {A : Type 0} (width : ℕ) (slots : List (Slot A)) (done : List (List (Slot A))) (last v : List (Slot A)) →
    HoldsSlots width slots (record { done = done; last = last }) → IsLegalLine width (last ++ v) → HoldsSlots width (slots ++ v) (record { done = done; last = last ++ v })
longer_holds_slots width slots done last v h legal = grind (arith, append_assoc, sealed_more)

pub next_holds_slots : {A : Type 0} (width : ℕ) (slots : List (Slot A)) (done : List (List (Slot A))) (last v : List (Slot A)) → 0 < length last →
    HoldsSlots width slots (record { done = done; last = last }) → StaysLongest width last v → IsLegalLine width v →
    HoldsSlots width (slots ++ v) (record { done = done ++ last ∷ []; last = v })
next_holds_slots width slots done last v some h stays legal = grind (arith, joined-append, append-nil, each_append, sealed_close)

pub fill_holds_slots : {A : Type 0} (width : ℕ) (slots : List (Slot A)) (done : List (List (Slot A))) (last v : List (Slot A)) → 0 < length last →
    HoldsSlots width slots (record { done = done; last = last }) → Each (InWider width) v → HoldsSlots width (slots ++ v) (fill width done last v)
fill_holds_slots width slots done last [] some h inside = rw append-nil h
fill_holds_slots {A} width slots done last (s ∷ v) some h inside =
    cond_both (nat_le (line_width (last ++ s ∷ [])) width) _ _ (HoldsSlots width (slots ++ (s ∷ v)))
    (λ fits. rw append_assoc at (fill_holds_slots width (slots ++ s ∷ []) done (last ++ s ∷ []) v (omega (arith, length-append last (s ∷ [])))
    (longer_holds_slots width slots done last (s ∷ []) h (longer width last (s ∷ []) some h.legal (leb-true _ _ fits) (rw inside.0.0 refl, tt))) inside.1))
    (λ over. rw append_assoc at (fill_holds_slots width (slots ++ s ∷ []) (done ++ last ∷ []) (s ∷ []) v (omega arith)
    (next_holds_slots width slots done last (s ∷ []) some h (stays_by_unit width last s [] (leb-false _ _ over) tt)
    (record { fits = omega (arith, inside.0.2); first = or_right s.begins s.wider inside.0.1; others = tt })) inside.1))
