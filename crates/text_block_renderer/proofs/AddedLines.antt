-- Lines only come.
use Rattle.text_block_renderer.proofs.Common.{◌≡◌, ℕ, Option, List, [], ◌∷◌, ◌++◌, map, fold, refl, ap, sym, ◌∙◌, append_assoc, append-nil, arith, Item, Line, Open, Renderer, with_line, Decoration}
use Rattle.text_block_renderer.proofs.Common.{marker_items, padded_line, lines_laid, Call, Steps, brought}
use Rattle.tbr_renderer.proofs.FlushedBlocks.{FlushesBlock}
use Rattle.text_block_renderer.proofs.Moves.{Move, Makes, MakesAll, through, any}
use Rattle.text_block_renderer.proofs.CallMoves.{calls_move}

abbrev pub Grows : {D A : Type 0} → Renderer D A (List A) → Renderer D A (List A) → Type 0
Grows {D} {A} r s = (more : List (Line (List A))) × (s.lines ≡ r.lines ++ more)

module _ {D A : Type 0} where
  stays : (r s : Renderer D A (List A)) → s.lines ≡ r.lines → Grows r s
  stays r s e = ([], e ∙ sym (append-nil r.lines))

  grows_on : (r m s : Renderer D A (List A)) → Grows r m → Grows m s → Grows r s
  grows_on r m s g h = (g.0 ++ h.0, h.1 ∙ ap (λ ls. ls ++ h.0) g.1 ∙ append_assoc r.lines g.0 h.0)

module _ {D A : Type 0} (columns : ℕ → Option ℕ) where
  -- where no marker waits
  pub unmarked : (r : Renderer D A (List A)) (ts : List (List (Item (List A)))) → r.waiting ≡ [] → lines_laid columns r ts ≡ map (padded_line columns r) ts
  unmarked r ts none = grind arith

  pub laid_lines : (ts : List (List (Item (List A)))) (r : Renderer D A (List A)) → (fold (with_line columns) r ts).lines ≡ r.lines ++ lines_laid columns r ts
  laid_lines [] r = sym (append-nil r.lines)
  laid_lines (t ∷ ts) r =
      let q : Renderer D A (List A) = with_line columns r t in
      laid_lines ts q ∙ ap (λ ls. q.lines ++ ls) (unmarked q ts refl) ∙ append_assoc r.lines (padded_line columns r (marker_items r.waiting ++ t) ∷ []) (map (padded_line columns r) ts)

  pub lines_grow : (texts : List (List (Item (List A)))) (r : Renderer D A (List A)) → Grows r (fold (with_line columns) r texts)
  lines_grow texts r = (lines_laid columns r texts, laid_lines texts r)

  flush_grows : (r s : Renderer D A (List A)) (o : Option (Open (List A))) → FlushesBlock columns r o s → Grows r s
  flush_grows r s o h = grind (arith, stays, laid_lines)

  move_grows : (m : Move D A) (r s : Renderer D A (List A)) → Makes columns any m r s → Grows r s
  move_grows m r s h = grind (arith, flush_grows, stays)

  pub moves_grow : (ms : List (Move D A)) (r s : Renderer D A (List A)) → MakesAll columns any ms r s → Grows r s
  moves_grow = through columns any Grows (λ r s e. stays r s (ap (λ (q : Renderer D A (List A)). q.lines) e)) grows_on move_grows

  pub steps_grow : (decoration : Decoration D A) (calls : List (Call (List A))) (r s : Renderer D A (List A)) → Steps columns decoration calls r s → Grows r s
  steps_grow decoration calls r s h = grind (arith, calls_move columns any decoration calls r s (brought columns decoration calls r) tt (h, refl), any, moves_grow)
