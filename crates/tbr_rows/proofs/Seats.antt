-- Cells among which overhanging ones have taken their places.
use Rattle.tbr_rows.proofs.Common.{◌≡◌, if◌then◌else◌, ℕ, ◌+◌, ◌-◌, ◌<◌, ◌≤◌, Bool, true, false, Option, Some, None, List, [], ◌∷◌, ◌++◌, map, fold, refl, ap, sym, ◌∙◌, subst, arith}
use Rattle.tbr_rows.proofs.Common.{append_assoc, append-nil, nat_lt, is_some, option_map, same_Some, Cell, end_of, row_width, next_place, empty_cell, AreSideBySide, AreApart, spot_of}
use Rattle.tbr_rows.proofs.Common.{is_left_for, ends_before, row_fits, with_hanging, Seating, seat, seated, append_all}
use Rattle.std.proofs.Common.{eq-eqb, ne_eqb, leb-true, ltb-true, ltb-false}
use Rattle.tbr_rows.specs.Cells.{appended}
use Rattle.tbr_rows.proofs.Fits.{left_is, found_exactly}

-- ---- how they come to be, cell by cell

-- No cell overhangs any more, or one comes after all others, takes the place of a cell, or waits for one after it.
pub data Seats (A : Type 0) : ℕ → List (Cell A) → List (Cell A) → List (Cell A) → Type 0 where
  rest : {at : ℕ} {cs : List (Cell A)} → Seats A at [] cs cs
  apart : {at : ℕ} {h : Cell A} {hs r : List (Cell A)} → nat_lt at h.place ≡ true → Seats A (end_of h + 1) hs [] r →
      Seats A at (h ∷ hs) [] (empty_cell at (h.place - at - 1) ∷ h ∷ r)
  next : {at : ℕ} {h : Cell A} {hs r : List (Cell A)} → nat_lt at h.place ≡ false → Seats A (end_of h + 1) hs [] r → Seats A at (h ∷ hs) [] (h ∷ r)
  takes : {at : ℕ} {h c : Cell A} {hs cs r : List (Cell A)} → is_left_for h (spot_of c) ≡ true → Seats A (end_of h + 1) hs cs r →
      Seats A at (h ∷ hs) (c ∷ cs) (h ∷ r)
  waits : {at : ℕ} {h c : Cell A} {hs cs r : List (Cell A)} → is_left_for h (spot_of c) ≡ false → ends_before h (spot_of c) ≡ true →
      Seats A (end_of c + 1) (h ∷ hs) cs r → Seats A at (h ∷ hs) (c ∷ cs) (c ∷ r)

after_all : {A : Type 0} (at : ℕ) (hs : List (Cell A)) → Seats A at hs [] (appended at hs)
after_all at [] = rest
after_all {A} at (h ∷ hs) = go (nat_lt at h.place) refl (after_all (end_of h + 1) hs)
  where
    go : (b : Bool) → nat_lt at h.place ≡ b → Seats A (end_of h + 1) hs [] (appended (end_of h + 1) hs) →
        Seats A at (h ∷ hs) [] ((if b then empty_cell at (h.place - at - 1) ∷ [] else []) ++ h ∷ appended (end_of h + 1) hs)
    go true e later = apart e later
    go false e later = next e later

pub seats : {A : Type 0} (at : ℕ) (hs cs r : List (Cell A)) → with_hanging at hs cs ≡ Some r → Seats A at hs cs r
seats {A} at hs [] r e = subst (Seats A at hs []) (same_Some (appended at hs) r e) (after_all at hs)
seats {A} at [] (c ∷ cs) r e = subst (Seats A at [] (c ∷ cs)) (same_Some (c ∷ cs) r e) rest
seats {A} at (h ∷ hs) (c ∷ cs) r e =
    go (is_left_for h (spot_of c)) (ends_before h (spot_of c)) refl refl (with_hanging (end_of h + 1) hs cs) (with_hanging (end_of c + 1) (h ∷ hs) cs)
    (λ t. seats (end_of h + 1) hs cs t) (λ t. seats (end_of c + 1) (h ∷ hs) cs t) e
  where
    go : (l b : Bool) → is_left_for h (spot_of c) ≡ l → ends_before h (spot_of c) ≡ b → (u v : Option (List (Cell A))) →
        ((t : List (Cell A)) → u ≡ Some t → Seats A (end_of h + 1) hs cs t) → ((t : List (Cell A)) → v ≡ Some t → Seats A (end_of c + 1) (h ∷ hs) cs t) →
        (if l then option_map (λ t. h ∷ t) u else if b then option_map (λ t. c ∷ t) v else None) ≡ Some r → Seats A at (h ∷ hs) (c ∷ cs) r
    go true b left ends (Some t) v taken kept k = subst (Seats A at (h ∷ hs) (c ∷ cs)) (same_Some (h ∷ t) r k) (takes left (taken t refl))
    go false true left ends u (Some t) taken kept k = subst (Seats A at (h ∷ hs) (c ∷ cs)) (same_Some (c ∷ t) r k) (waits left ends (kept t refl))
    go true b left ends None v taken kept k = cc
    go false true left ends u None taken kept k = cc
    go false false left ends u v taken kept k = cc

-- ---- they are side by side

side_by_side : {A : Type 0} {at : ℕ} {hs cs r : List (Cell A)} → Seats A at hs cs r → AreSideBySide at cs → AreApart at hs → AreSideBySide at r
side_by_side rest s a = s
side_by_side {at = at} (apart {h = h} e w) s a = let free : at < h.place = ltb-true at h.place e in (refl, (omega (arith, free), side_by_side w tt a.1))
side_by_side {at = at} (next {h = h} e w) s a = let none : h.place ≤ at = ltb-false at h.place e in (omega (arith, none, a.0), side_by_side w tt a.1)
side_by_side (takes {h = h} {c = c} {cs = cs} left w) s a =
    let is = left_is h c left in
    let same : end_of c + 1 ≡ end_of h + 1 = omega (arith, is.0, is.1) in
    (omega (arith, is.0, s.0), side_by_side w (subst (λ n. AreSideBySide n cs) same s.1) a.1)
side_by_side (waits left ends w) s a = (s.0, side_by_side w s.1 (leb-true _ _ ends, a.1))

pub stand_side_by_side : {A : Type 0} (at : ℕ) (hs cs r : List (Cell A)) → AreSideBySide at cs → AreApart at hs → with_hanging at hs cs ≡ Some r → AreSideBySide at r
stand_side_by_side at hs cs r s a e = side_by_side (seats at hs cs r e) s a

-- ---- they are what the row's own cells and the overhanging ones come to, one after another

place_push : {A : Type 0} (cs : List (Cell A)) (c : Cell A) → next_place (cs ++ c ∷ []) ≡ end_of c + 1
place_push [] c = refl
place_push (d ∷ []) c = refl
place_push (d ∷ e ∷ cs) c = place_push (e ∷ cs) c

none_wait : {A : Type 0} (done cs : List (Cell A)) → fold seat (record { seated = done; waiting = [] }) cs ≡ record { seated = done ++ cs; waiting = [] }
none_wait done [] = rw append-nil
none_wait done (c ∷ cs) = none_wait (done ++ c ∷ []) cs ∙ rw append_assoc

-- Cells in their places are those that the code finds, cell by cell.
seats_are : {A : Type 0} {at : ℕ} {hs cs r : List (Cell A)} → Seats A at hs cs r → (done : List (Cell A)) → at ≡ next_place done →
    (let s : Seating A = fold seat (record { seated = done; waiting = hs }) cs in append_all s.seated s.waiting) ≡ done ++ r
seats_are {A} (rest {cs = cs}) done here = ap (λ (s : Seating A). append_all s.seated s.waiting) (none_wait done cs)
seats_are {at = at} (apart {h = h} e w) done here =
    let before = done ++ empty_cell at (h.place - at - 1) ∷ [] in
    rw (← here, e) (seats_are w (before ++ h ∷ []) (sym (place_push before h)) ∙ simp append_assoc)
seats_are (next {h = h} e w) done here = rw (← here, e) (seats_are w (done ++ h ∷ []) (sym (place_push done h)) ∙ rw append_assoc)
seats_are (takes {h = h} {c = c} left w) done here =
    simp (eq-eqb h.place c.place (left_is h c left).0) (seats_are w (done ++ h ∷ []) (sym (place_push done h)) ∙ rw append_assoc)
seats_are (waits {h = h} {c = c} left ends w) done here =
    let later : end_of c + 1 ≤ h.place = leb-true _ _ ends in
    simp (ne_eqb h.place c.place (λ e. let no : ⊥ = omega (arith, later, e) in no)) (seats_are w (done ++ c ∷ []) (sym (place_push done c)) ∙ rw append_assoc)

-- where none overhangs
pub seated_none : {A : Type 0} (cs : List (Cell A)) → seated [] cs ≡ cs
seated_none cs = seats_are (rest {at = 0} {cs = cs}) [] refl

some_is : {X : Type 0} (o : Option X) → is_some o ≡ true → (x : X) × (o ≡ Some x)
some_is None e = cc
some_is (Some x) e = (x, refl)

-- the cells of a row that fits
pub seats_of_row : {A : Type 0} (hs cs : List (Cell A)) → AreSideBySide 0 cs → AreApart 0 hs → row_fits hs (map spot_of cs) ≡ true →
    (with_hanging 0 hs cs ≡ Some (seated hs cs)) × AreSideBySide 0 (seated hs cs)
seats_of_row {A} hs cs s a fits =
    let r = some_is (with_hanging 0 hs cs) (found_exactly 0 hs cs s a ∙ fits) in
    let is : seated hs cs ≡ r.0 = seats_are (seats 0 hs cs r.0 r.1) [] refl in
    (r.1 ∙ ap (λ (t : List (Cell A)). Some t) (sym is), subst (AreSideBySide 0) (sym is) (stand_side_by_side 0 hs cs r.0 s a r.1))

-- one more cell after the others
pub side_by_side_push : {A : Type 0} (cs : List (Cell A)) (c : Cell A) → AreSideBySide 0 cs → c.place ≡ next_place cs → AreSideBySide 0 (cs ++ c ∷ [])
side_by_side_push [] c s e = (e, tt)
side_by_side_push {A} (d ∷ cs) c s e = go 0 d cs s e
  where
    go : (at : ℕ) (d : Cell A) (cs : List (Cell A)) → AreSideBySide at (d ∷ cs) → c.place ≡ row_width (d ∷ cs) + 1 → AreSideBySide at (d ∷ (cs ++ c ∷ []))
    go at d [] s e = (s.0, (e, tt))
    go at d (f ∷ cs) s e = (s.0, go (end_of d + 1) f cs s.1 e)
