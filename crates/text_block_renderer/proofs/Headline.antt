-- The headline.
use Rattle.text_block_renderer.proofs.Common.{◌≡◌, ℕ, Option, ◌≤◌, List, ap, sym, ◌∙◌, subst, arith, Each, AreApart, IsFilled, HasFilledCells, done, Decoration, run, RenderOptions, Renderer, least}
use Rattle.text_block_renderer.proofs.Common.{block_width, IsSound, Act, after_act, Piece, cells_in, rows_in, IsPiece, NoLayoutIsAhead, StandsOnce, CellsFit, Headline}
use Rattle.tbr_model.proofs.lists.Each.{each_unmap}
use Rattle.text_block_renderer.specs.Headline.{made}
use Rattle.text_block_renderer.proofs.RunStretches.{none_ahead}
use Rattle.text_block_renderer.proofs.TwoColumns.{act_fits}
use Rattle.tbr_rows.proofs.Among.{each_gives}
use Rattle.text_block_renderer.proofs.OverhangingCells.{Chain, cells_filled, cells_shown}
use Rattle.text_block_renderer.proofs.ActParts.{acts_along}

module _ {D A : Type 0} (columns : ℕ → Option ℕ) where
  module _ (decoration : Decoration D A) where
    no_layout : (r : Renderer D A (List A)) (p : Piece D A columns) → IsPiece columns r p → NoLayoutIsAhead columns p
    no_layout r p h = grind (arith, none_ahead)

    once : (r : Renderer D A (List A)) (p : Piece D A columns) → IsPiece columns r p → StandsOnce columns p
    once r p h = grind (arith, each_gives)

    pub headline : (acts : List (Act A)) (r s : Renderer D A (List A)) → IsSound columns r → run (after_act columns decoration) acts r ≡ done s → Headline columns decoration acts r s
    headline acts r s sound h =
        let along = acts_along columns decoration acts r s sound h in
        let same : block_width s ≡ block_width r = ap (λ w. least w s.options.wrap_width) along.width ∙ ap (λ (o : RenderOptions). least r.width o.wrap_width) along.options in
        record {
          came = along.came;
          added = along.added;
          become = along.become;
          no_layout_is_ahead = each_gives (IsPiece columns r) (NoLayoutIsAhead columns) (no_layout r) along.came.pieces along.came.are;
          visible_characters_stand_once = each_gives (IsPiece columns r) (StandsOnce columns) (once r) along.came.pieces along.came.are;
          each_cell_shows_its_texts_once = λ one none fit before rows after cell are is_cell span.
              cells_shown columns one r.options.draw_borders before rows after cell r.hanging s.hanging span is_cell
              (each_gives (λ p. CellsFit columns (cells_in p)) (λ p. HasFilledCells columns (made p)) (cells_filled columns one) _
              (subst (Each (λ p. CellsFit columns (cells_in p))) are
              (each_unmap cells_in (λ p. CellsFit columns (cells_in p)) (CellsFit columns) (λ p k. k)
              (rows_in along.came.pieces) (subst (Each (CellsFit columns)) (sym along.came.put_rows) fit))))
              (subst (λ cells. AreApart 0 cells × Each (IsFilled columns) cells) (sym none) (tt, tt))
              (subst (λ ps. Chain columns r.options.draw_borders r.hanging ps s.hanging) are along.chain);
          two_columns_are_enough = λ two wide act narrow. act_fits columns sound.space two decoration act s (subst (λ n. 2 ≤ n) (sym same) wide) narrow;
        }
