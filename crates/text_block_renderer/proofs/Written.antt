-- What is written in lines: their texts, and those in front of borders.
use Rattle.text_block_renderer.proofs.Common.{◌≡◌, ℕ, ◌+◌, Option, List, [], ◌∷◌, ◌++◌, map, flat_map, refl, ap, sym, ◌∙◌, subst, append_assoc, rules, AllZip, Item, Hole, Border, shown_from, shown}
use Rattle.text_block_renderer.proofs.Common.{element_items, Line, text, border, marker_items, Renderer, line_padding, StaysLine, padded_line, lines_laid, StandWithin, text_before, written, to_show}
use Rattle.tbr_model.specs.Layout.{joined}
use Rattle.tbr_border.specs.Cell.{Cell}
use Rattle.text_block_renderer.proofs.LastingLines.{stay_alike}
use Rattle.text_block_renderer.proofs.AddedLines.{unmarked}
use Rattle.text_block_renderer.proofs.Within.{two_within, itself_within, after_within, before_within}

module _ {T : Type 0} where
  pub written-append : (ls ms : List (Line T)) → written (ls ++ ms) ≡ written ls ++ written ms
  written-append [] ms = refl
  written-append (text is ∷ ls) ms = ap (λ js. is ++ js) (written-append ls ms) ∙ sym (append_assoc is (written ls) (written ms))
  written-append (border b ∷ ls) ms = ap (λ js. text_before b ++ js) (written-append ls ms) ∙ sym (append_assoc (text_before b) (written ls) (written ms))

  -- lines that stay say the same
  pub stays_written : (ls ms : List (Line T)) → AllZip StaysLine ls ms → written ms ≡ written ls
  stays_written = stay_alike written written-append (λ b c h. ap (λ (hs : List (Hole T)). flat_map (λ (h : Hole T). element_items h.element) hs ++ []) h.1)

  module _ (columns : ℕ → Option ℕ) where
    -- a border shows the text in front of it
    holes_shown : (tag : T) (cells : List Cell) (at : ℕ) (hs : List (Hole T)) →
        StandWithin (to_show columns (flat_map (λ (h : Hole T). element_items h.element) hs))
        (to_show columns (shown_from tag cells at hs))
    holes_shown tag cells at [] = tt
    holes_shown tag cells at (h ∷ hs) = search (rules, after_within, two_within, itself_within, holes_shown tag cells (h.place + h.width) hs)

    pub border_shown : (tag : T) (b : Border T) → StandWithin (to_show columns (text_before b)) (to_show columns (shown tag b))
    border_shown tag b = holes_shown tag b.cells 0 b.holes

module _ {D A : Type 0} (columns : ℕ → Option ℕ) where
  -- laid texts are written, after the markers that wait
  pub laid_within : (r : Renderer D A (List A)) (ts : List (List (Item (List A)))) → StandWithin (to_show columns (joined ts)) (to_show columns (written (lines_laid columns r ts)))
  laid_within r [] = tt
  laid_within r (t ∷ ts) =
      let marked = marker_items r.waiting ++ t in
      let padding = line_padding columns r marked in
      let rest =
      subst (λ ls. StandWithin (to_show columns (joined ts)) (to_show columns (written ls)))
      (unmarked columns (record r { waiting = [] }) ts refl) (laid_within (record r { waiting = [] }) ts) in
      two_within columns t (joined ts) (marked ++ padding) (written (map (padded_line columns r) ts))
      (before_within columns t marked padding
      (after_within columns (marker_items r.waiting) t t (itself_within columns t))) rest
