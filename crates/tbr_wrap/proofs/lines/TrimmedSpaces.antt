-- Spaces taken away from a line, and white space from a word.
use Rattle.tbr_wrap.proofs.Common.{trailing_cases, ◌≡◌, ℕ, ◌+◌, ◌-◌, ◌≤◌, Bool, true, false, Option, Some, if◌then◌else◌, List, [], ◌∷◌, ◌++◌, length, refl, ap, ◌∙◌, arith, unwrap_or, ◌==◌, cond_both}
use Rattle.tbr_wrap.proofs.Common.{eqb-true, is_whitespace, Item, glyph, marker, item_width, items_width, is_space_item, without_leading, without_trailing, trimmed, Laid, joined, SameItem, SameItems}
use Rattle.tbr_wrap.proofs.Common.{HoldsRule, KeepsLimits, LaidLines, length_all_zip}
use Rattle.tbr_model.specs.Rule.{is_white_item}
use Rattle.tbr_wrap.proofs.lines.CountedMarkers.{markers_within, trailing_markers}

same_space : {A : Type 0} (eq : A → A → Bool) (i j : Item A) → SameItem eq i j → is_space_item i ≡ is_space_item j
same_space eq (glyph c a) (glyph d b) h = ap (λ x. x == 32) h.0
same_space eq (marker m) (marker n) h = refl
same_space eq _ _ h = absurd h

same_white : {A : Type 0} (eq : A → A → Bool) (i j : Item A) → SameItem eq i j → is_white_item i ≡ is_white_item j
same_white eq (glyph c a) (glyph d b) h = ap is_whitespace h.0
same_white eq (marker m) (marker n) h = refl
same_white eq _ _ h = absurd h

pub same_leading : {A : Type 0} (eq : A → A → Bool) (is js : List (Item A)) → SameItems eq is js → SameItems eq (without_leading is) (without_leading js)
same_leading eq [] [] h = tt
same_leading {A} eq (i ∷ is) (j ∷ js) h =
    rw (same_white eq i j h.0) (cond_both (is_white_item j) (without_leading js) (j ∷ js) (λ (ks : List (Item A)). SameItems eq (if is_white_item j then without_leading is else i ∷ is) ks)
    (λ e. rw e (same_leading eq is js h.1)) (λ e. rw e h))
same_leading eq _ _ h = absurd h

pub same_trailing : {A : Type 0} (eq : A → A → Bool) (is js : List (Item A)) → SameItems eq is js → SameItems eq (without_trailing is) (without_trailing js)
same_trailing eq [] [] h = tt
same_trailing {A} eq (i ∷ is) (j ∷ js) h = go (without_trailing is) (without_trailing js) refl refl (same_trailing eq is js h.1)
  where
    go : (ks ls : List (Item A)) → without_trailing is ≡ ks → without_trailing js ≡ ls → SameItems eq ks ls → SameItems eq (without_trailing (i ∷ is)) (without_trailing (j ∷ js))
    go [] [] e f k = rw (e, f) (rw (same_space eq i j h.0) (last (is_space_item j)))
      where
        last : (b : Bool) → SameItems eq (if b then [] else i ∷ []) (if b then [] else j ∷ [])
        last true = tt
        last false = (h.0, tt)
    go [] (l ∷ ls) e f k = absurd k
    go (x ∷ ks) [] e f k = absurd k
    go (x ∷ ks) (l ∷ ls) e f k = rw (e, f) (h.0, k)
same_trailing eq _ _ h = absurd h

space_width : {A : Type 0} (columns : ℕ → Option ℕ) → columns 32 ≡ Some 1 → (i : Item A) → is_space_item i ≡ true → item_width columns i ≡ 1
space_width columns one (glyph c a) e = ap (λ x. unwrap_or (columns x) 0) (eqb-true c 32 e) ∙ ap (λ o. unwrap_or o 0) one
space_width columns one (marker m) e = cc

-- each space that is taken away took a column
pub trailing_width : {A : Type 0} (columns : ℕ → Option ℕ) → columns 32 ≡ Some 1 → (is : List (Item A)) →
    items_width columns is + length (without_trailing is) ≡ items_width columns (without_trailing is) + length is
trailing_width {A} columns one is =
    trailing_cases (λ (is js : List (Item A)). items_width columns is + length js ≡ items_width columns js + length is) refl (λ i is js h. omega (arith, h))
    (λ i is s h. omega (arith, h, space_width columns one i s)) is

module _ {A : Type 0} (columns : ℕ → Option ℕ) (one : columns 32 ≡ Some 1) (eq : A → A → Bool) (b : LaidLines A)
    (before given : List (List (Item A))) (r : Laid A) (h : HoldsRule columns eq b before given r) (n : ℕ)
    (removed : n + length (without_trailing h.laid.line) ≡ length h.laid.line) where
  pub removed_len : n ≤ b.line_len
  removed_len = omega (arith, removed, h.holds.len)

  -- what is left has all the markers
  pub markers_left : b.line_markers ≤ b.line_len - n
  markers_left = omega (arith, removed, h.holds.len, h.holds.markers, trailing_markers h.laid.line, markers_within (without_trailing h.laid.line))

  left_width : n + items_width columns (without_trailing r.line) ≡ items_width columns r.line
  left_width =
      let k = same_trailing eq h.laid.line r.line h.shows.last in
      omega (
        arith,
        removed,
        trailing_width columns one r.line,
        length_all_zip (SameItem eq) h.laid.line r.line h.shows.last,
        length_all_zip (SameItem eq) (without_trailing h.laid.line) (without_trailing r.line) k,
      )

  pub removed_width : n ≤ b.line_width
  removed_width = omega (arith, left_width, h.measured.line, h.shows.width, h.holds.width)

  pub lays_trimmed : (c : LaidLines A) → KeepsLimits b c →
      c.flat.placed ≡ joined (before ++ h.laid.done) ++ without_trailing h.laid.line → c.ended ≡ b.ended →
      c.line_len ≡ b.line_len - n → c.line_markers ≡ b.line_markers → c.line_width ≡ b.line_width - n →
      HoldsRule columns eq c before given (trimmed columns r)
  lays_trimmed c same placed lines len markers width =
      let left : b.line_width - n ≡ items_width columns (without_trailing r.line) = omega (arith, left_width, h.measured.line, h.shows.width, h.holds.width) in
      record {
        laid = record { done = h.laid.done; line = without_trailing h.laid.line; width = b.line_width - n };
        holds =
            record {
              placed = placed;
              lens = ap (λ q. q.items) lines ∙ h.holds.lens;
              len =
                  omega (arith, len, removed, h.holds.len);
              markers =
                  omega (arith, markers, h.holds.markers, trailing_markers h.laid.line);
              width = width;
            };
        shows = record { rest = h.shows.rest; split = h.shows.split; done = h.shows.done; last = same_trailing eq h.laid.line r.line h.shows.last; width = left };
        measured = record { small = omega (arith, left_width, same.width, h.measured.small, h.measured.line); line = refl; done = rw same.width (rw same.may_overflow h.measured.done) };
      }
