-- Rows that follow one another among calls, and what they show of their cells.
use Rattle.text_block_renderer.proofs.Common.{◌≡◌, ℕ, Bool, Option, List, [], ◌∷◌, ◌++◌, map, length, sym, ◌∙◌, subst, arith, Each, length-append, length-map, length-replicate, CellAlign}
use Rattle.text_block_renderer.proofs.Common.{AreApart, DrawsInOne, Fills, IsFilled, FollowOneAnother, HasFilledCells, ShowsTexts, Line, GivenCell, PutRow, FitsCell}
use Rattle.text_block_renderer.proofs.Common.{LinesFit, CellsFit, IsCellOf}
use Rattle.text_block_renderer.proofs.Common.{TellsApart, filled, cells_from, row_shown, text, border}
use Rattle.text_block_renderer.proofs.Common.{◌-◌, items_width, ap}
use Rattle.tbr_model.proofs.lists.Each.{each_front, each_map}
use Rattle.tbr_rows.specs.declared.LineSet.{LineSet as Cell}
use Rattle.tbr_rows.proofs.FilledCells.{fill_later}
use Rattle.tbr_tagged.specs.Padding.{aligned_items}
use Rattle.tbr_rows.proofs.Stretches.{longest_items}
use Rattle.tbr_renderer.proofs.RowsOfCells.{each_own}
use Rattle.tbr_rows.proofs.CellsOfRows.{aligned_width, all_filled, overhang_apart, overhang_filled, shown_over}
use Rattle.text_block_renderer.specs.Headline.{made}

-- ---- cells whose lines fit

module _ {A : Type 0} (columns : ℕ → Option ℕ) (one : DrawsInOne columns) where
  module _ (same : A → A → Bool) (tells : TellsApart same) (a : A) where
    line_filled : (align : CellAlign) (width : ℕ) (l : Line A) → FitsCell columns width l → Fills columns width (filled same columns align width a l)
    line_filled align width (text is) fits =
        let missing = width - items_width columns is in
        ap (items_width columns) (longest_items same tells (aligned_items align is missing a)) ∙ omega (arith, aligned_width columns one align is missing a, fits)
    line_filled align width (border b) fits = grind (arith, length-append, length-replicate, fill_later)

    lines_filled : (align : CellAlign) (width : ℕ) (ls : List (Line A)) → Each (FitsCell columns width) ls → Each (Fills columns width) (map (filled same columns align width a) ls)
    lines_filled align width = each_map (filled same columns align width a) (FitsCell columns width) (Fills columns width) (line_filled align width)

    pub own_filled : (cells : List (GivenCell A)) → Each (LinesFit columns) cells → Each (IsFilled columns) (cells_from same columns a 0 cells)
    own_filled = each_own same columns a (LinesFit columns) (IsFilled columns) (λ given at fits. lines_filled given.align given.width given.lines fits) 0

-- ---- the cells that overhang

module _ {D A : Type 0} (columns : ℕ → Option ℕ) where
  -- Rows have what overhung before, and then what overhangs of the row before; other pieces change nothing of it.
  abbrev pub Chain : Bool → List (Cell (List A)) → List (PutRow D A columns) → List (Cell (List A)) → Type 0
  Chain draws hanging [] left = left ≡ hanging
  Chain draws hanging (p ∷ rows) left = (p.before.hanging ≡ hanging) × (p.before.options.draw_borders ≡ draws) × Chain draws (row_shown p).overhang rows left

  pub chain_append : (draws : Bool) (hanging : List (Cell (List A))) (rows : List (PutRow D A columns))
      (between : List (Cell (List A))) (others : List (PutRow D A columns)) (left : List (Cell (List A))) →
      Chain draws hanging rows between → Chain draws between others left → Chain draws hanging (rows ++ others) left
  chain_append draws hanging [] between others left h k = subst (λ cells. Chain draws cells others left) h k
  chain_append draws hanging (p ∷ rows) between others left h k = (h.0, h.1, chain_append draws (row_shown p).overhang rows between others left h.2 k)

  follow : (draws : Bool) (hanging : List (Cell (List A))) (rows after : List (PutRow D A columns))
      (left : List (Cell (List A))) → Chain draws hanging (rows ++ after) left →
      FollowOneAnother columns draws (map made rows)
  follow draws hanging [] after left h = tt
  follow draws hanging (p ∷ []) after left h = h.1
  follow draws hanging (p ∷ q ∷ rows) after left h = (h.1, h.2.0, follow draws (row_shown p).overhang (q ∷ rows) after left h.2)

  module _ (one : DrawsInOne columns) where
    pub cells_filled : (p : PutRow D A columns) → CellsFit columns p.cells → HasFilledCells columns (made p)
    cells_filled p fit = own_filled columns one p.same p.tells p.before.annotations p.cells fit

    -- of a stretch of the rows
    pub cells_shown : (draws : Bool) (before rows after : List (PutRow D A columns)) (cell : Cell (List A)) (hanging left : List (Cell (List A))) → length rows ≡ cell.span → IsCellOf cell rows →
        Each (λ p. HasFilledCells columns (made p)) (before ++ rows ++ after) → AreApart 0 hanging × Each (IsFilled columns) hanging → Chain draws hanging (before ++ rows ++ after) left →
        ShowsTexts columns draws (map made rows) cell
    cells_shown draws [] [] after cell hanging left span is fill hang chain = elim is [ ]
    cells_shown draws [] (p ∷ rows) after cell hanging left span is fill hang chain =
        let own = each_front (λ q. HasFilledCells columns (made q)) (p ∷ rows) after fill in
        let filled = each_map made (λ q. HasFilledCells columns (made q)) (HasFilledCells columns) (λ q k. k) (p ∷ rows) own in
        let first : AreApart 0 p.before.hanging × Each (IsFilled columns) p.before.hanging = subst (λ cells. AreApart 0 cells × Each (IsFilled columns) cells) (sym chain.0) hang in
        shown_over columns one draws (map made (p ∷ rows)) cell (follow draws hanging (p ∷ rows) after left chain) filled (is, first.0, first.1)
        (let fewer : length (map made (p ∷ rows)) ≡ cell.span = length-map (p ∷ rows) made ∙ span in fewer)
    cells_shown draws (q ∷ before) rows after cell hanging left span is fill hang chain =
        let first : AreApart 0 q.before.hanging × Each (IsFilled columns) q.before.hanging = subst (λ cells. AreApart 0 cells × Each (IsFilled columns) cells) (sym chain.0) hang in
        let apart = overhang_apart columns one (made q) first.0 in
        let filled = overhang_filled columns one (made q) (all_filled columns one (made q) first.1 fill.0) in
        cells_shown draws before rows after cell (row_shown q).overhang left span is fill.1 (apart, filled) chain.2
