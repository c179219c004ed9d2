-- Which cells are in a row: those that overhang, and its own.
use Rattle.tbr_rows.proofs.Common.{◌≡◌, ℕ, ◌-◌, inl, inr, true, false, Option, Some, List, [], ◌∷◌, refl, ap, sym, ◌∙◌, is_none, ◌==◌, Each, and_parts, RenderLine, Cell, first_line}
use Rattle.tbr_rows.proofs.Common.{empty_cell, with_hanging, MadeRow, StandsAmong}
use Rattle.std.proofs.Common.{◌≢◌}
use Rattle.tbr_rows.proofs.Among.{among_cons, among_front, among_again, none_among}
use Rattle.tbr_rows.proofs.Seats.{Seats, rest, apart, next, takes, waits, seats}

hangs_among : {A : Type 0} {at : ℕ} {hs cs r : List (Cell A)} (x : Cell A) → Seats A at hs cs r → StandsAmong x hs → StandsAmong x r
hangs_among x rest k = absurd (none_among x k)
hangs_among x (apart {h = h} e w) k = among_front x _ _ (among_again x h _ _ (hangs_among x w) k)
hangs_among x (next {h = h} e w) k = among_again x h _ _ (hangs_among x w) k
hangs_among x (takes {h = h} left w) k = among_again x h _ _ (hangs_among x w) k
hangs_among x (waits {c = c} left ends w) k = among_front x c _ (hangs_among x w k)

-- each that overhangs is in the row
pub among_seated : {A : Type 0} (at : ℕ) (x : Cell A) (hs cs r : List (Cell A)) → StandsAmong x hs → with_hanging at hs cs ≡ Some r → StandsAmong x r
among_seated at x hs cs r k e = hangs_among x (seats at hs cs r e) k

-- a cell that leaves its place has no line
stays_among : {A : Type 0} {at : ℕ} {hs cs r : List (Cell A)} (x : Cell A) → is_none (first_line x.lines) ≡ false → Seats A at hs cs r → StandsAmong x cs →
    StandsAmong x r
stays_among x some rest k = k
stays_among x some (apart e w) k = absurd (none_among x k)
stays_among x some (next e w) k = absurd (none_among x k)
stays_among x some (takes {h = h} {c = c} {cs = cs} left w) k =
    let none = (and_parts (h.width == c.width) _ (and_parts (h.place == c.place) _ left).1).1 in
    elim (among_cons x c cs k) [
      | inl same ↦ absurd (let no : true ≡ false = sym none ∙ ap (λ (y : Cell _). is_none (first_line y.lines)) (sym same) ∙ some in cc)
      | inr l ↦ among_front x h _ (stays_among x some w l)
    ]
stays_among x some (waits {c = c} left ends w) k = among_again x c _ _ (stays_among x some w) k

-- and so is each of its own cells that has a line
pub among_own : {A : Type 0} (at : ℕ) (x : Cell A) (hs cs r : List (Cell A)) → is_none (first_line x.lines) ≡ false → StandsAmong x cs → with_hanging at hs cs ≡ Some r → StandsAmong x r
among_own at x hs cs r some k e = stays_among x some (seats at hs cs r e) k

some_line : {A : Type 0} (ls : List (RenderLine A)) → ls ≢ [] → is_none (first_line ls) ≡ false
some_line [] h = absurd (h refl)
some_line (l ∷ ls) h = refl

-- of one row
pub own_cell_stands : {A : Type 0} (columns : ℕ → Option ℕ) (r : MadeRow A columns) (c : Cell A) → StandsAmong c r.own → c.lines ≢ [] → StandsAmong c r.cells
own_cell_stands columns r c k some = among_own 0 c r.hanging r.own r.cells (some_line c.lines some) k r.seated

pub hanging_cell_stands : {A : Type 0} (columns : ℕ → Option ℕ) (r : MadeRow A columns) (c : Cell A) → StandsAmong c r.hanging → StandsAmong c r.cells
hanging_cell_stands columns r c k = among_seated 0 c r.hanging r.own r.cells k r.seated

module _ {A : Type 0} (P : Cell A → Type 0) (empty : (at width : ℕ) → P (empty_cell at width)) where
  all_seated : {at : ℕ} {hs cs r : List (Cell A)} → Seats A at hs cs r → Each P hs → Each P cs → Each P r
  all_seated rest k l = l
  all_seated {at = at} (apart {h = h} e w) k l = (empty at (h.place - at - 1), (k.0, all_seated w k.1 tt))
  all_seated (next e w) k l = (k.0, all_seated w k.1 tt)
  all_seated (takes left w) k l = (k.0, all_seated w k.1 l.1)
  all_seated (waits left ends w) k l = (l.0, all_seated w k l.1)

  pub each_seated : (at : ℕ) (hs cs r : List (Cell A)) → Each P hs → Each P cs → with_hanging at hs cs ≡ Some r → Each P r
  each_seated at hs cs r k l e = all_seated (seats at hs cs r e) k l
