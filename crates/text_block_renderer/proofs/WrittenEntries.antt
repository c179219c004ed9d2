-- What came is in the lines, with others between, whether they are padded or not.
use Rattle.text_block_renderer.proofs.Common.{◌≡◌, ℕ, Option, None, List, [], ◌∷◌, ◌++◌, fold, refl, ap, sym, ◌∙◌, subst, append_assoc, append-nil, AllZip, filter-append, Entry, Item, run_of}
use Rattle.text_block_renderer.proofs.Common.{marker_items, is_visible_or_marker, Border, done, Decoration, text, Open, Renderer, line_padding, with_line, block_width, IsSound, block_lines}
use Rattle.text_block_renderer.proofs.Common.{lines_at_end, names_at_end, flushed, border_line, with_border, laid_entries, run, Act, after_act, acts_come, StaysLine, borders_drawn, StandWithin}
use Rattle.text_block_renderer.proofs.Common.{written, to_show, IsWrittenSoFar}
use Rattle.tbr_model.specs.Layout.{joined}
use Rattle.tbr_renderer.proofs.FlushedBlocks.{EndsBlock, Flushes}
use Rattle.text_block_renderer.proofs.Within.{within_both, within_more, itself_within, before_within}
use Rattle.text_block_renderer.proofs.Written.{written-append, stays_written}
use Rattle.text_block_renderer.proofs.LineContents.{unpadded, marker_items-append}
use Rattle.text_block_renderer.proofs.BroughtEntries.{Show, show_both, at_shown, shown_markers, laid_stand}
use Rattle.text_block_renderer.proofs.EndedEntries.{Texts, Ended, GoesOn, flushed_on, acts_on}
use Rattle.text_block_renderer.proofs.Moves.{sound_alike, sound_ended}

module _ {A : Type 0} (columns : ℕ → Option ℕ) where
  abbrev seen : List (Item (List A)) → List (Item (List A))
  seen is = to_show columns is

  two_seen : (is js : List (Item (List A))) → seen (is ++ js) ≡ seen is ++ seen js
  two_seen is js = filter-append (is_visible_or_marker columns) is js

module _ {D A : Type 0} (columns : ℕ → Option ℕ) where
  -- These items are in the lines, but for the markers that wait.
  record InLines (r : Renderer D A (List A)) (all : List (Item (List A))) : Type 0 where
    shown : List (Item (List A))
    whole : shown ++ marker_items r.waiting ≡ all
    stand : StandWithin shown (seen columns (written r.lines))

  -- a text that is laid
  text_in : (r : Renderer D A (List A)) (t all : List (Item (List A))) → InLines r all → InLines (with_line columns r t) (all ++ seen columns t)
  text_in r t all h =
      let marked = marker_items r.waiting ++ t in
      let more = (marked ++ line_padding columns r marked) ++ [] in
      let q = with_line columns r t in
      let same : h.shown ++ seen columns marked ≡ all ++ seen columns t = simp (two_seen {A = A} columns, shown_markers {T = List A} columns, append_assoc, sym h.whole) in
      let within = before_within columns marked (marked ++ line_padding columns r marked) [] (before_within columns marked marked (line_padding columns r marked) (itself_within columns marked)) in
      let lines = ap (seen columns) (written-append r.lines (text (marked ++ line_padding columns r marked) ∷ [])) ∙ two_seen columns (written r.lines) more in
      let both = subst (StandWithin (h.shown ++ seen columns marked)) (sym lines) (within_both h.shown (seen columns marked) (seen columns (written r.lines)) (seen columns more) h.stand within) in
      record { shown = all ++ seen columns t; whole = append-nil (all ++ seen columns t); stand = subst (λ is. StandWithin is (seen columns (written q.lines))) same both }

  texts_in : (ts : List (List (Item (List A)))) (r : Renderer D A (List A)) (all : List (Item (List A))) → InLines r all → InLines (fold (with_line columns) r ts) (all ++ seen columns (joined ts))
  texts_in [] r all h = subst (InLines r) (sym (append-nil all)) h
  texts_in (t ∷ ts) r all h =
      let q = with_line columns r t in
      subst (InLines (fold (with_line columns) q ts))
      (append_assoc all (seen columns t) (seen columns (joined ts))
      ∙ ap (λ is. all ++ is) (sym (two_seen columns t (joined ts))))
      (texts_in ts q (all ++ seen columns t) (text_in r t all h))

  -- They show these entries.
  abbrev AreWritten : Renderer D A (List A) → List (Entry (List A)) → Type 0
  AreWritten r es = (all : List (Item (List A))) × Show columns all es × InLines r all

  end_written : (r s : Renderer D A (List A)) (b : Open (List A)) (es : List (Entry (List A))) → EndsBlock columns r b s → IsSound columns r → AreWritten r es → AreWritten s (es ++ run_of b.events)
  end_written r s b es h sound (all, order, there) =
      let texts = lines_at_end columns r b in
      let names = names_at_end columns r b in
      let padded = block_lines columns r b texts in
      let laid : Renderer D A (List A) = fold (with_line columns) (record r { block = None }) padded in
      let new = seen columns (joined texts) ++ marker_items names in
      let k = texts_in padded (record r { block = None }) all (record { shown = there.shown; whole = there.whole; stand = there.stand }) in
      let after : InLines (flushed columns r padded names) (all ++ new) = record {
        shown = k.shown;
        whole = ap (λ is. k.shown ++ is) (marker_items-append laid.waiting names) ∙ sym (append_assoc k.shown (marker_items laid.waiting) (marker_items names))
            ∙ ap (λ is. is ++ marker_items names)
            (k.whole
            ∙ ap (λ is. all ++ is)
            (unpadded (seen columns) (at_shown columns) columns b.padding (block_width r) texts))
            ∙ append_assoc all (seen columns (joined texts)) (marker_items names);
        stand = k.stand;
      } in
      (all ++ new, show_both columns all new es (run_of b.events) order (h.ends sound).order, subst (λ (q : Renderer D A (List A)). InLines q (all ++ new)) (sym h.is) after)

  laid_written : (r : Renderer D A (List A)) (t : List (Item (List A))) (es : List (Entry (List A))) → AreWritten r es → AreWritten (with_line columns r t) (es ++ laid_entries t)
  laid_written r t es (all, order, k) = (all ++ seen columns t, show_both columns all (seen columns t) es (laid_entries t) order (laid_stand columns t).order, text_in r t all k)

  rule_written : (r : Renderer D A (List A)) (b : Border (List A)) (es : List (Entry (List A))) → AreWritten r es → AreWritten (with_border columns r b) es
  rule_written r b es (all, order, k) =
      let put = border_line columns r b ∷ [] in
      let lines : seen columns (written (r.lines ++ put)) ≡ seen columns (written r.lines) ++ seen columns
      (written put) = ap (seen columns) (written-append r.lines put) ∙ two_seen columns (written r.lines) (written put) in (
        all,
        order,
        record {
          shown = k.shown;
          whole = k.whole;
          stand =
              subst (StandWithin k.shown) (sym lines) (within_more k.shown (seen columns (written r.lines)) (seen columns (written put)) k.stand);
        },
      )

  stay_written : (r s : Renderer D A (List A)) (es : List (Entry (List A))) → AllZip StaysLine r.lines s.lines → s.waiting ≡ r.waiting → AreWritten r es → AreWritten s es
  stay_written r s es stay waiting (all, order, k) =
      let whole = ap (λ names. k.shown ++ marker_items names) waiting ∙ k.whole in
      let stand = subst (λ is. StandWithin k.shown (seen columns is)) (sym (stays_written r.lines s.lines stay)) k.stand in
      (all, order, record { shown = k.shown; whole = whole; stand = stand })

  abbrev Written : Renderer D A (List A) → List (Entry (List A)) → Texts A → Type 0
  Written r es bs = IsSound columns r × AreWritten r es

  written_on : GoesOn columns Written
  written_on = record {
    flushed = λ r s b es bs h k. (sound_ended columns r s b h k.0, end_written r s b es h k.0 k.1);
    laid = λ r t es bs k. (record { space = k.0.space; wide = k.0.wide }, laid_written r t es k.1);
    ruled = λ r b es bs k. (record { space = k.0.space; wide = k.0.wide }, rule_written r b es k.1);
    stays = λ r s es bs stay waiting width options k. (sound_alike columns r s width options k.0, stay_written r s es stay waiting k.1);
  }

  so_far : (r : Renderer D A (List A)) (es : List (Entry (List A))) (bs : Texts A) → Ended Written r es bs → IsWrittenSoFar columns r es
  so_far r es bs (ended, whole, (still, (all, order, k))) = record { ended = ended; whole = whole; shown = k.shown; order = subst (λ is. Show columns is ended) (sym k.whole) order; stand = k.stand }

  less_open : (r : Renderer D A (List A)) (es : List (Entry (List A))) → IsSound columns r → IsWrittenSoFar columns r es → Ended Written r es []
  less_open r es sound h = (h.ended, h.whole, (sound, (h.shown ++ marker_items r.waiting, h.order, record { shown = h.shown; whole = refl; stand = h.stand })))

  pub flush_written : (r s : Renderer D A (List A)) (es : List (Entry (List A))) → Flushes columns r s → IsSound columns r → IsWrittenSoFar columns r es → IsWrittenSoFar columns s es
  flush_written r s es h sound k = so_far s es [] (flushed_on columns Written written_on r s es [] h (less_open r es sound k))

  pub acts_write : (decoration : Decoration D A) (acts : List (Act A)) (r s : Renderer D A (List A))
      (before : List (Entry (List A))) → IsSound columns r → run (after_act columns decoration) acts r ≡ done s →
      IsWrittenSoFar columns r before →
      IsWrittenSoFar columns s (acts_come columns decoration acts r before)
  acts_write decoration acts r s before sound h k =
      so_far s _ (borders_drawn columns decoration acts r)
      (acts_on columns Written written_on decoration acts r s before [] h (less_open r before sound k))
