-- Rows of cells, as lines.
use Rattle.text_block_renderer.proofs.Common.{◌≡◌, ℕ, Bool, true, false, if◌then◌else◌, Option, List, [], ◌∷◌, ◌++◌, map, flat_map, fold, refl, ap, sym, ◌∙◌, append_assoc, append-nil, arith, join_by}
use Rattle.text_block_renderer.proofs.Common.{fold-append, Item, marker_items, horizontal, slash, Decoration, Line, Renderer, Settings, settings_of, with_line, done, changed, after_flush, with_border}
use Rattle.text_block_renderer.proofs.Common.{border_line, border_of_cells, as_text, with_divider, with_cell, with_cell_below, with_cells, append_vert_row, Does, padded_line, lines_laid}
use Rattle.tbr_border.specs.Cell.{Cell}
use Rattle.tbr_tagged.proofs.Outcomes.{live_done}
use Rattle.tbr_renderer.proofs.OutcomeParts.{done_before}
use Rattle.text_block_renderer.specs.VerticalRows.{marked, row_lines}
use Rattle.tbr_renderer.proofs.SettingsStay.{Steady, lines_added, flushed_alike}
use Rattle.text_block_renderer.proofs.Moves.{any}
use Rattle.text_block_renderer.proofs.AppendedMoves.{cells_beside}
use Rattle.text_block_renderer.proofs.AddedLines.{unmarked, laid_lines}

module _ {D A : Type 0} (columns : ℕ → Option ℕ) where
  divider_undrawn : (cell : Cell) (q : Renderer D A (List A)) → q.options.draw_borders ≡ false → with_divider columns cell q ≡ q
  divider_undrawn cell q e = ap (λ (d : Bool). if d then with_border columns q (border_of_cells cell q.width q) else q) e

  settings_laid : (ts : List (List (Item (List A)))) (r : Renderer D A (List A)) → settings_of (fold (with_line columns) r ts) ≡ settings_of r
  settings_laid ts r = ap (λ (x : Steady D A). x.settings) (lines_added columns ts r)

  -- ---- with borders

  module _ (m : Renderer D A (List A)) (drawn : m.options.draw_borders ≡ true) where
    -- the renderer with these lines, where these markers wait
    abbrev on : List (Line (List A)) → List (List ℕ) → Renderer D A (List A)
    on ls names = record m { lines = ls; waiting = names }

    abbrev texts_in : List (Line (List A)) → List (List (Item (List A)))
    texts_in lines = map (as_text m.annotations) lines

    -- the markers that still wait after texts
    abbrev left : List (List ℕ) → List (List (Item (List A))) → List (List ℕ)
    left names [] = names
    left names (t ∷ ts) = []

    none_left : (ts : List (List (Item (List A)))) → left [] ts ≡ []
    none_left ts = grind arith

    texts_put : (ts : List (List (Item (List A)))) (ls : List (Line (List A))) (names : List (List ℕ)) →
        fold (with_line columns) (on ls names) ts ≡ on (ls ++ lines_laid columns (on ls names) ts) (left names ts)
    texts_put [] ls names = ap (λ ks. on ks names) (sym (append-nil ls))
    texts_put (t ∷ ts) ls names =
        let first = padded_line columns m (marker_items names ++ t) in
        texts_put ts (ls ++ first ∷ []) [] ∙ ap (λ ks. on ((ls ++ first ∷ []) ++ ks) (left [] ts)) (unmarked columns (on ls []) ts refl)
        ∙ ap (λ ks. on ks (left [] ts)) (append_assoc ls (first ∷ []) (map (padded_line columns m) ts)) ∙ ap (on (ls ++ first ∷ map (padded_line columns m) ts)) (none_left ts)

    divider_put : (cell : Cell) (ls : List (Line (List A))) (names : List (List ℕ)) →
        with_divider columns cell (on ls names) ≡ on (ls ++ border_line columns m (border_of_cells cell m.width m) ∷ [])
        names
    divider_put cell ls names = ap (λ (draws : Bool). if draws then with_border columns (on ls names) (border_of_cells cell m.width m) else on ls names) drawn

    abbrev slashed : List (Line (List A))
    slashed = border_line columns m (border_of_cells slash m.width m) ∷ []

    -- cells below others, where these markers wait, and what then waits
    abbrev below : List (List ℕ) → List (List (Line (List A))) → List (Line (List A))
    below names [] = []
    below names (lines ∷ cells) = (slashed ++ lines_laid columns (on [] names) (texts_in lines)) ++ below (left names (texts_in lines)) cells

    abbrev left_by : List (List ℕ) → List (List (Line (List A))) → List (List ℕ)
    left_by names [] = names
    left_by names (lines ∷ cells) = left_by (left names (texts_in lines)) cells

    below_put : (cells : List (List (Line (List A)))) (ls : List (Line (List A))) (names : List (List ℕ)) →
        fold (with_cell_below columns) (on ls names) cells ≡ on (ls ++ below names cells) (left_by names cells)
    below_put [] ls names = ap (λ ks. on ks names) (sym (append-nil ls))
    below_put (lines ∷ cells) ls names =
        let laid = lines_laid columns (on [] names) (texts_in lines) in
        let rest = left names (texts_in lines) in
        ap (λ q. fold (with_cell_below columns) (with_cell columns q lines) cells) (divider_put slash ls names)
        ∙ ap (λ q. fold (with_cell_below columns) q cells) (texts_put (texts_in lines) (ls ++ slashed) names)
        ∙ below_put cells ((ls ++ slashed) ++ laid) rest
        ∙ ap (λ ks. on ks (left_by rest cells))
        (append_assoc (ls ++ slashed) laid (below rest cells) ∙ append_assoc ls slashed (laid ++ below rest cells)
        ∙ ap (λ ks. ls ++ ks) (sym (append_assoc slashed laid (below rest cells))))

    abbrev pad : List (List (Item (List A))) → List (Line (List A))
    pad texts = map (padded_line columns m) texts

    none_marked : (cells : List (List (List (Item (List A))))) → marked [] cells ≡ cells
    none_marked [] = refl
    none_marked ([] ∷ cells) = ap (λ cs. [] ∷ cs) (none_marked cells)
    none_marked ((t ∷ ts) ∷ cells) = refl

    below_is : (cells : List (List (Line (List A)))) (names : List (List ℕ)) → below names cells ≡ flat_map (λ texts. slashed ++ pad texts) (marked names (map texts_in cells))
    below_is [] names = refl
    below_is ([] ∷ cells) names = ap (λ ks. (slashed ++ []) ++ ks) (below_is cells names)
    below_is ((line ∷ lines) ∷ cells) names =
        let first = slashed ++ pad ((marker_items names ++ as_text m.annotations line) ∷ texts_in lines) in
        ap (λ ks. first ++ ks) (below_is cells [] ∙ ap (flat_map (λ texts. slashed ++ pad texts)) (none_marked (map texts_in cells)))

    cells_put : (cells : List (List (Line (List A)))) (ls : List (Line (List A))) (names : List (List ℕ)) →
        (with_cells columns (on ls names) cells).lines ≡ ls ++ join_by pad slashed (marked names (map texts_in cells))
    cells_put [] ls names = sym (append-nil ls)
    cells_put ([] ∷ cells) ls names = ap (λ (q : Renderer D A (List A)). q.lines) (below_put cells ls names) ∙ ap (λ ks. ls ++ ks) (below_is cells names)
    cells_put ((line ∷ lines) ∷ cells) ls names =
        let first = pad ((marker_items names ++ as_text m.annotations line) ∷ texts_in lines) in
        ap (λ q. (fold (with_cell_below columns) q cells).lines) (texts_put (texts_in (line ∷ lines)) ls names)
        ∙ ap (λ (q : Renderer D A (List A)). q.lines) (below_put cells (ls ++ first) [])
        ∙ append_assoc ls first (below [] cells)
        ∙ ap (λ ks. ls ++ (first ++ ks)) (below_is cells [] ∙ ap (flat_map (λ texts. slashed ++ pad texts)) (none_marked (map texts_in cells)))

    row_put : (cells : List (List (Line (List A)))) → (with_divider columns horizontal (with_cells columns m cells)).lines ≡ m.lines ++ row_lines columns m cells
    row_put cells =
        let plain = border_line columns m (border_of_cells horizontal m.width m) ∷ [] in
        let p : Renderer D A (List A) = with_cells columns m cells in
        let same = cells_beside columns any cells m in
        let draws : p.options.draw_borders ≡ true = ap (λ (q : Renderer D A (List A)). q.options.draw_borders) same ∙ drawn in
        let last : (with_divider columns horizontal p).lines ≡ p.lines ++ plain =
        ap (λ (d : Bool). let q = (if d then with_border columns p (border_of_cells horizontal p.width p) else p) in q.lines) draws
        ∙ ap (λ (q : Renderer D A (List A)). p.lines ++ border_line columns q (border_of_cells horizontal q.width q) ∷ []) same in
        last ∙ ap (λ ls. ls ++ plain) (cells_put cells m.lines m.waiting) ∙ append_assoc m.lines (join_by pad slashed (marked m.waiting (map texts_in cells))) plain

  -- the cells come after a flush
  pub cells_after : (decoration : Decoration D A) (cells : List (List (Line (List A)))) (r s : Renderer D A (List A)) → Does columns decoration (append_vert_row cells) r s →
      (m : Renderer D A (List A)) × (after_flush columns r ≡ done m) × (s ≡ with_divider columns horizontal (with_cells columns m cells))
  cells_after decoration cells r s h =
      let change : Renderer D A (List A) → Renderer D A (List A) = λ m. with_divider columns horizontal (with_cells columns m cells) in
      done_before change (after_flush columns r) s (live_done r.failure (changed change (after_flush columns r)) s h).1

  pub row_drawn : (decoration : Decoration D A) (cells : List (List (Line (List A)))) (r s : Renderer D A (List A)) →
      Does columns decoration (append_vert_row cells) r s → r.options.draw_borders ≡ true →
      (m : Renderer D A (List A)) × (after_flush columns r ≡ done m) × (s.lines ≡ m.lines ++ row_lines columns m cells)
  row_drawn decoration cells r s h drawn =
      let (m, flushed, is) = cells_after decoration cells r s h in
      let settings = ap (λ (x : Steady D A). x.settings) (flushed_alike columns r m flushed) in
      (m, flushed, ap (λ (q : Renderer D A (List A)). q.lines) is ∙ row_put m (ap (λ (x : Settings D A). x.kept.options.draw_borders) settings ∙ drawn) cells)

  -- ---- without borders

  below_alone : (cells : List (List (Line (List A)))) (q : Renderer D A (List A)) → q.options.draw_borders ≡ false →
      fold (with_cell_below columns) q cells ≡ fold (with_line columns) q (flat_map (map (as_text q.annotations)) cells)
  below_alone [] q undrawn = refl
  below_alone (lines ∷ cells) q undrawn =
      let texts = map (as_text q.annotations) lines in
      let after : Renderer D A (List A) = fold (with_line columns) q texts in
      let settings = settings_laid texts q in
      ap (λ p. fold (with_cell_below columns) (with_cell columns p lines) cells) (divider_undrawn slash q undrawn)
      ∙ below_alone cells after (ap (λ (x : Settings D A). x.kept.options.draw_borders) settings ∙ undrawn)
      ∙ ap (λ (x : Settings D A). fold (with_line columns) after (flat_map (map (as_text x.annotations)) cells))
      settings ∙ sym (fold-append (with_line columns) q texts (flat_map (map (as_text q.annotations)) cells))

  cells_alone : (cells : List (List (Line (List A)))) (q : Renderer D A (List A)) → q.options.draw_borders ≡ false →
      with_cells columns q cells ≡ fold (with_line columns) q (flat_map (map (as_text q.annotations)) cells)
  cells_alone [] q undrawn = refl
  cells_alone (lines ∷ cells) q undrawn = ap (λ p. fold (with_cell_below columns) (with_cell columns p lines) cells) (sym (divider_undrawn slash q undrawn)) ∙ below_alone (lines ∷ cells) q undrawn

  pub row_undrawn : (decoration : Decoration D A) (cells : List (List (Line (List A)))) (r s : Renderer D A (List A)) →
      Does columns decoration (append_vert_row cells) r s → r.options.draw_borders ≡ false →
      (m : Renderer D A (List A)) × (after_flush columns r ≡ done m) × (s.lines ≡ m.lines ++ lines_laid columns m (flat_map (map (as_text r.annotations)) cells))
  row_undrawn decoration cells r s h undrawn =
      let (m, flushed, is) = cells_after decoration cells r s h in
      let settings = ap (λ (x : Steady D A). x.settings) (flushed_alike columns r m flushed) in
      let texts = flat_map (map (as_text r.annotations)) cells in
      let here : m.options.draw_borders ≡ false = ap (λ (x : Settings D A). x.kept.options.draw_borders) settings ∙ undrawn in
      let put = cells_alone cells m here ∙ ap (λ (x : Settings D A). fold (with_line columns) m (flat_map (map (as_text x.annotations)) cells)) settings in
      let after : Renderer D A (List A) = fold (with_line columns) m texts in
      let last = divider_undrawn horizontal after (ap (λ (x : Settings D A). x.kept.options.draw_borders) (settings_laid texts m) ∙ here) in
      (m, flushed, ap (λ (q : Renderer D A (List A)). q.lines) (is ∙ ap (with_divider columns horizontal) put ∙ last) ∙ laid_lines columns texts m)
