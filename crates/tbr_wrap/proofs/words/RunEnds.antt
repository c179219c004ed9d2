-- Where a run ends.
use Rattle.tbr_wrap.proofs.Common.{◌≡◌, ℕ, Bool, false, Option, None, List, [], ◌∷◌, ◌++◌, map, length, refl, ap, sym, ◌∙◌, subst, arith, append-nil, Each, IsEquivalence, Normal, Item, marker}
use Rattle.tbr_wrap.proofs.Common.{items_width, has_character, joined, nothing_laid, end_if_character, Progress, flush_word, waiting, SameItems, FitsBlock, HoldsRule, KeepsLimits, IsAtProgress}
use Rattle.tbr_wrap.proofs.Common.{RunIsFinished, LaidLines, Wrapper, items_width-append, no_character_no_width, same_has, same_items_append}
use Rattle.tbr_wrap.proofs.lines.HeldLines.{holds_same}
use Rattle.tbr_wrap.proofs.lines.LaidByRule.{lays_same}

module _ {A : Type 0} (columns : ℕ → Option ℕ) (eq : A → A → Bool) (laws : IsEquivalence eq) (b c : Wrapper A) (d : LaidLines A) (before given : List (List (Item A))) (p : Progress A) where
  abbrev q : Progress A
  q = flush_word columns b.lines.width p

  -- what is on no ended line waits as a word
  pub run_finished : (h : HoldsRule columns eq d before given (end_if_character q.laid)) →
      SameItems eq d.flat.word q.word → has_character (waiting columns b.lines.width p) ≡ false →
      KeepsLimits b.lines d →
      c.lines.flat.placed ≡ joined (before ++ h.laid.done) → c.lines.flat.word ≡ h.laid.line ++ d.flat.word →
      c.lines.ended ≡ d.ended → c.lines.line_len ≡ 0 → c.lines.line_markers ≡ 0 → c.lines.line_width ≡ 0 →
      c.word_width ≡ 0 → c.space ≡ None → c.word_mode ≡ Normal →
      c.continuation_flag ≡ false → c.in_continuation ≡ false → RunIsFinished columns eq b c before given p
  run_finished h word none limits placed words lines len markers zero no_width space mode continuation_flag in_continuation = record {
    now = h.laid.done;
    rest = h.shows.rest;
    split = h.shows.split;
    same = h.shows.done;
    fits =
        subst (λ n. Each (FitsBlock columns n b.lines.may_overflow) (end_if_character q.laid).done) limits.width
        (subst (λ o. Each (FitsBlock columns d.width o) (end_if_character q.laid).done) limits.may_overflow h.measured.done);
    stands = record {
      lays = record {
        laid = nothing_laid;
        holds = record {
          placed = placed ∙ ap joined (sym (append-nil (before ++ h.laid.done))) ∙ sym (append-nil (joined ((before ++ h.laid.done) ++ [])));
          lens = ap (λ x. x.items) lines ∙ h.holds.lens ∙ ap (map length) (sym (append-nil (before ++ h.laid.done)));
          len = len;
          markers = markers;
          width = zero;
        };
        shows = record { rest = []; split = refl; done = tt; last = tt; width = refl };
        measured = record { small = omega arith; line = refl; done = tt };
      };
      space = rw space tt;
      word = rw words (same_items_append eq laws h.laid.line (end_if_character q.laid).line d.flat.word q.word h.shows.last word);
      word_width = no_width ∙ sym (no_character_no_width columns (waiting columns b.lines.width p) none);
      mode = mode;
      continuation_flag = continuation_flag;
      in_continuation = in_continuation;
    };
  }

-- ---- markers of the word

module _ {A : Type 0} (columns : ℕ → Option ℕ) (eq : A → A → Bool) (laws : IsEquivalence eq) (b : Wrapper A) (lines : LaidLines A) (before given : List (List (Item A))) (p : Progress A) where
  -- where the word changes by markers alone
  word_stands : (is : List (Item A)) → IsAtProgress columns eq b before given p → SameItems eq lines.flat.word is →
      items_width columns is ≡ items_width columns p.word → lines.flat.placed ≡ b.lines.flat.placed →
      lines.ended ≡ b.lines.ended → lines.line_len ≡ b.lines.line_len → lines.line_markers ≡ b.lines.line_markers →
      lines.line_width ≡ b.lines.line_width → KeepsLimits b.lines lines → IsAtProgress columns eq (record b { lines = lines }) before given (record p { word = is })
  word_stands is s word wide placed ended len markers width limits = grind (arith, lays_same, holds_same)

  -- a marker joins it
  pub marked_stands : (name : List ℕ) → IsAtProgress columns eq b before given p →
      lines.flat ≡ record b.lines.flat { word = b.lines.flat.word ++ marker name ∷ [] } → lines.ended ≡ b.lines.ended →
      lines.line_len ≡ b.lines.line_len → lines.line_markers ≡ b.lines.line_markers →
      lines.line_width ≡ b.lines.line_width → KeepsLimits b.lines lines →
      IsAtProgress columns eq (record b { lines = lines }) before given (record p { word = p.word ++ marker name ∷ [] })
  marked_stands name s flat ended len markers width limits = grind (arith, word_stands, same_items_append, items_width-append)

  -- all of them are taken out
  pub unmarked_stands : IsAtProgress columns eq b before given p → has_character b.lines.flat.word ≡ false →
      lines.flat ≡ record b.lines.flat { word = [] } → lines.ended ≡ b.lines.ended → lines.line_len ≡ b.lines.line_len →
      lines.line_markers ≡ b.lines.line_markers → lines.line_width ≡ b.lines.line_width → KeepsLimits b.lines lines →
      IsAtProgress columns eq (record b { lines = lines }) before given (record p { word = [] })
  unmarked_stands s none flat ended len markers width limits =
      word_stands [] s (rw flat tt) (sym (no_character_no_width columns p.word (sym (same_has eq b.lines.flat.word p.word s.word) ∙ none))) (ap (λ f. f.placed) flat) ended len markers width limits
