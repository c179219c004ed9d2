-- Calls put no character without columns into lines.
use Rattle.text_block_renderer.proofs.Common.{◌≡◌, ℕ, Option, List, [], ◌∷◌, map, fold, replicate, subst, sym, ap, refl, Each, ◌<◌, Item, horizontal, DrawsInOne, Line, Decoration, RenderOptions}
use Rattle.text_block_renderer.proofs.Common.{Renderer, new_renderer, with_line, sub_renderer, handed_out, done, Call, Does, Steps, after, add_border, append_subrender, append_vert_row, with_border}
use Rattle.text_block_renderer.proofs.Common.{border_of_cells, prefixed, with_cells, with_divider, run, AppendsNothing}
use Rattle.tbr_tagged.proofs.Outcomes.{live_done}
use Rattle.tbr_renderer.proofs.OutcomeParts.{one_done, done_first}
use Rattle.tbr_renderer.proofs.CallParts.{flushed_then, handed_then}
use Rattle.tbr_renderer.specs.Calls.{made}
use Rattle.text_block_renderer.specs.Columns.{TextHasColumns, LinesHaveColumns, CallHasColumns, RendererHasColumns}
use Rattle.text_block_renderer.proofs.Moves.{Move, flush, line, rule, join, turn, Makes, own, through}
use Rattle.text_block_renderer.proofs.CallMoves.{call_moves}
use Rattle.text_block_renderer.proofs.LineCharacters.{Has, line_put, lines_put, border_put, flush_keeps, cells_below, prefixed_have}

module _ {D A : Type 0} (columns : ℕ → Option ℕ) (draws : DrawsInOne columns) where
  -- moves of calls that append nothing
  move_keeps : (m : Move D A) (r s : Renderer D A (List A)) → Makes columns own m r s → Has columns draws r → Has columns draws s
  move_keeps (flush q) r s h k = flush_keeps columns draws r s r.block h.1 k
  move_keeps (line p is) r s h k =
      subst (λ (q : Renderer D A (List A)). Has columns draws q) (sym h.2)
      (subst (λ (js : List (Item (List A))). Has columns draws (with_line columns r js)) (sym h.0) (line_put columns draws r [] tt k))
  move_keeps (rule p cells) r s h k = absurd h.0
  move_keeps (join es) r s h k = subst (λ (q : Renderer D A (List A)). Has columns draws q) (sym h) k
  move_keeps turn r s h k = (subst (LinesHaveColumns columns) (sym h.lines) k.0, rw h.hanging k.1)

  module _ (decoration : Decoration D A) where
    own_keeps : (c : Call (List A)) (r s : Renderer D A (List A)) → AppendsNothing c → Does columns decoration c r s → Has columns draws r → Has columns draws s
    own_keeps c r s nothing h =
        let path = call_moves columns own decoration c r s (λ appends. absurd (appends nothing)) h in
        through columns own (λ p q. Has columns draws p → Has columns draws q) (λ p q e k. subst (λ (t : Renderer D A (List A)). Has columns draws t) (sym e) k)
        (λ p q t f g k. g (f k)) move_keeps path.moves r s path.makes

    pub call_keeps : (c : Call (List A)) (r s : Renderer D A (List A)) → CallHasColumns columns c → Does columns decoration c r s → Has columns draws r → Has columns draws s
    call_keeps (add_border width) r s good h k =
        let (m, flushes, is) = flushed_then columns (λ m. with_border columns m (border_of_cells horizontal width r)) r s (live_done r.failure (made columns decoration (add_border width) r) s h).1 in
        subst (λ (q : Renderer D A (List A)). Has columns draws q) (sym is) (border_put columns draws m (border_of_cells horizontal width r) tt (flush_keeps columns draws r m r.block flushes k))
    call_keeps (append_subrender prefixes lines) r s good h k =
        let texts = prefixed r.annotations prefixes lines in
        let (m, flushes, is) = flushed_then columns (λ m. fold (with_line columns) m texts) r s (live_done r.failure (made columns decoration (append_subrender prefixes lines) r) s h).1 in
        subst (λ (q : Renderer D A (List A)). Has columns draws q) (sym is)
        (lines_put columns draws texts m (prefixed_have columns draws r.annotations prefixes lines good.0 good.1) (flush_keeps columns draws r m r.block flushes k))
    call_keeps (append_vert_row cells) r s good h k =
        let (m, flushes, is) = flushed_then columns (λ m. with_divider columns horizontal (with_cells columns m cells)) r s
        (live_done r.failure (made columns decoration (append_vert_row cells) r) s h).1 in
        subst (λ (q : Renderer D A (List A)). Has columns draws q) (sym is) (cells_below columns draws cells m good (flush_keeps columns draws r m r.block flushes k))
    call_keeps other r s good h k = own_keeps other r s tt h k

    pub calls_keep : (calls : List (Call (List A))) (r s : Renderer D A (List A)) → Each (CallHasColumns columns) calls → Steps columns decoration calls r s → Has columns draws r → Has columns draws s
    calls_keep [] r s good h k = subst (λ (q : Renderer D A (List A)). Has columns draws q) (sym (one_done r s h)) k
    calls_keep (c ∷ cs) r s good h k =
        let (m, does, steps) = done_first (after columns decoration c r) (run (after columns decoration) cs) s h in
        calls_keep cs m s good.1 steps (call_keeps c r m good.0 does k)

  -- the lines that are handed out
  pub handed_have : (r : Renderer D A (List A)) (lines : List (Line (List A))) → Has columns draws r → handed_out columns r ≡ done lines → LinesHaveColumns columns lines
  handed_have r lines k h =
      let (m, flushes, is) = handed_then columns r lines h in
      subst (LinesHaveColumns columns) (sym is) (flush_keeps columns draws r m r.block flushes k).0
