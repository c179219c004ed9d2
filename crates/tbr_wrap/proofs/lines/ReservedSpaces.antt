-- Spaces that are placed at once, and taken onto lines one line after another.
use Rattle.tbr_wrap.proofs.Common.{◌≡◌, ℕ, zero, suc, ◌+◌, ◌≤◌, Bool, true, Option, Some, List, [], ◌∷◌, ◌++◌, length, refl, ap, sym, ◌∙◌, arith, append_assoc, append-nil, length-append}
use Rattle.tbr_wrap.proofs.Common.{IsEquivalence, map-append, Item, Laid, extended, end_line, spaces, joined-append, LaidLines, HoldsRule, HoldsRuleBefore, KeepsLimits, markers-append}
use Rattle.tbr_wrap.proofs.lines.LaidByRule.{shows_extended, shows_ended, same_spaces, spaces_width, spaces_length}
use Rattle.tbr_wrap.proofs.lines.CountedMarkers.{spaces_markers}
use Rattle.tbr_wrap.proofs.lines.LineWidths.{measured_extended, measured_ended}

pub spaces_more : {A : Type 0} (m n : ℕ) (a : A) → spaces (m + n) a ≡ spaces m a ++ spaces n a
spaces_more zero n a = ap (λ k. spaces k a) (let e : zero + n ≡ n = omega arith in e)
spaces_more (suc m) n a = ap (λ k. spaces k a) (let e : suc m + n ≡ suc (m + n) = omega arith in e) ∙ ap (λ is. spaces 1 a ++ is) (spaces_more m n a)

module _ {A : Type 0} (columns : ℕ → Option ℕ) (eq : A → A → Bool) (laws : IsEquivalence eq) (b c : LaidLines A) (limits : KeepsLimits b c) (before given : List (List (Item A))) (r : Laid A) where
  -- where items are placed after what is laid
  pub reserved : (after : List (Item A)) → HoldsRule columns eq b before given r →
      c.flat.placed ≡ b.flat.placed ++ after → c.ended ≡ b.ended → c.line_len ≡ b.line_len →
      c.line_markers ≡ b.line_markers → c.line_width ≡ b.line_width → HoldsRuleBefore columns eq c before given r after
  reserved after h placed lines len markers width = grind arith

  module _ (n : ℕ) (x a : A) (after : List (Item A)) (one : columns 32 ≡ Some 1) (same : eq x a ≡ true)
      (h : HoldsRuleBefore columns eq b before given r (spaces n x ++ after)) (room : b.line_width + n ≤ b.width) where
    small : r.width + n ≤ b.width
    small = omega (arith, room, h.holds.width, h.shows.width)

    -- they are taken onto the open line
    pub taken_here : c.flat ≡ b.flat → c.ended ≡ b.ended → c.line_len ≡ b.line_len + n →
        c.line_markers ≡ b.line_markers → c.line_width ≡ b.line_width + n →
        HoldsRuleBefore columns eq c before given (extended r (spaces n a) n) after
    taken_here flat lines len markers width = record {
      laid = extended h.laid (spaces n x) n;
      holds = record {
        placed = rw (flat, h.holds.placed) (simp append_assoc);
        lens = ap (λ q. q.items) lines ∙ h.holds.lens;
        len = omega (arith, len, h.holds.len, length-append h.laid.line (spaces n x), spaces_length n x);
        markers = omega (arith, markers, h.holds.markers, markers-append h.laid.line (spaces n x), spaces_markers n x);
        width = omega (arith, width, h.holds.width);
      };
      shows = shows_extended eq laws given h.laid r (spaces n x) (spaces n a) n n h.shows (same_spaces eq n x a same) refl;
      measured = rw limits.width (rw limits.may_overflow (measured_extended columns b.width b.may_overflow r (spaces n a) n h.measured (sym (spaces_width columns one n a)) small));
    }

    -- they fill the open line, which is ended
    pub taken_full : c.flat ≡ b.flat → c.ended.items ≡ b.ended.items ++ (b.line_len + n) ∷ [] → c.line_len ≡ 0 →
        c.line_markers ≡ 0 → c.line_width ≡ 0 →
        HoldsRuleBefore columns eq c before given (end_line (extended r (spaces n a) n)) after
    taken_full flat lines len markers width =
        let line = h.laid.line ++ spaces n x in
        let many : b.line_len + n ≡ length line = omega (arith, h.holds.len, length-append h.laid.line (spaces n x), spaces_length n x) in
        record {
          laid = end_line (extended h.laid (spaces n x) n);
          holds = record {
            placed = rw (flat, h.holds.placed) (simp (append_assoc, joined-append, append-nil));
            lens = rw (lines, h.holds.lens, many) (simp (append_assoc, map-append));
            len = len;
            markers = markers;
            width = width;
          };
          shows =
              shows_ended eq laws given (extended h.laid (spaces n x) n) (extended r (spaces n a) n)
              (shows_extended eq laws given h.laid r (spaces n x) (spaces n a) n n h.shows (same_spaces eq n x a same) refl);
          measured =
              rw limits.width
              (rw limits.may_overflow
              (measured_ended columns b.width b.may_overflow (extended r (spaces n a) n)
              (measured_extended columns b.width b.may_overflow r (spaces n a) n h.measured (sym (spaces_width columns one n a)) small)));
        }

-- nothing is left after what is laid
pub all_taken : {A : Type 0} (columns : ℕ → Option ℕ) (eq : A → A → Bool) (b : LaidLines A)
    (before given : List (List (Item A))) (r : Laid A) → HoldsRuleBefore columns eq b before given r [] →
    HoldsRule columns eq b before given r
all_taken columns eq b before given r h = grind (arith, append-nil)
