-- Rows and footnotes put no character without columns into lines.
use Rattle.text_block_renderer.proofs.Common.{◌≡◌, ℕ, zero, suc, ◌-◌, Bool, true, false, if◌then◌else◌, Option, None, Some, List, [], ◌∷◌, ◌++◌, map, flat_map, fold, drop, nat_lt, subst}
use Rattle.text_block_renderer.proofs.Common.{sym, ap, refl, ◌∙◌, arith, cond_both, Each, AllZip, Item, items_width, text_items, spaces, columns_in_front, element_items, Hole, Border, shown}
use Rattle.text_block_renderer.proofs.Common.{CellAlign, DrawsInOne, SeenRow, cells_left, first_line, Overhanging, Line, text, border}
use Rattle.text_block_renderer.proofs.Common.{text_before, border_lines, last_border, Decoration, Element, Renderer, with_line, with_border, with_next, GivenCell}
use Rattle.text_block_renderer.proofs.Common.{style_in, footnote_lines, done, run, Act, call, row, fmt_links, finalise, after_act, StaysLine}
use Rattle.text_block_renderer.proofs.Common.{TellsApart, gap_of, gap_in, with_gap, row_under, shown_in, left_in, plain_border, filled, cells_from, own_cells, PutRow, row_shown}
use Rattle.tbr_model.specs.Run.{glyph, item_width}
use Rattle.tbr_model.proofs.lists.Each.{each_append, each_map}
use Rattle.tbr_border.specs.Border.{with_cells as recelled, stretched}
use Rattle.tbr_border.specs.Cell.{line_above}
use Rattle.tbr_border.specs.declared.RenderLine.{RenderLine}
use Rattle.tbr_border.specs.declared.RenderLine.TheVariants.{Text, Line as Rule}
use Rattle.tbr_border.specs.RenderLine.{line_items, items_under}
use Rattle.tbr_tagged.specs.Elements.{items_of}
use Rattle.tbr_tagged.specs.Padding.{aligned_items}
use Rattle.tbr_footnotes.specs.Footnote.{footnote_items, fits_after, cut_lines}
use Rattle.tbr_rows.specs.declared.RowStyle.{RowStyle}
use Rattle.tbr_rows.specs.Gaps.{has_gap, overhang_of, overhang}
use Rattle.tbr_rows.specs.Texts.{row_height, filler_above, row_text, cell_text, text_of_lines as cell_shows, line_text, numbers_below}
use Rattle.tbr_rows.specs.Rows.{separator_in, next_begun, border_below}
use Rattle.tbr_rows.proofs.Stretches.{longest_items}
use Rattle.tbr_rows.specs.Cells.{row_width}
use Rattle.tbr_rows.proofs.Among.{each_drop}
use Rattle.tbr_rows.proofs.CellsSeated.{each_seated}
use Rattle.tbr_rows.proofs.ColumnsOfRows.{column_of, columns_are, lines_stay}
use Rattle.tbr_rows.proofs.FilledCells.{above_narrow}
use Rattle.tbr_rows.proofs.BelowRows.{begins_plain}
use Rattle.tbr_renderer.proofs.OutcomeParts.{one_done, done_first}
use Rattle.tbr_renderer.specs.Footnotes.{link_width}
use Rattle.text_block_renderer.specs.Columns.{ItemHasColumns, LineHasColumns, LinesHaveColumns, CellHasColumns, GivenHasColumns, ActHasColumns}
use Rattle.text_block_renderer.proofs.ActSteps.{after_put, row_to_put, ActStep, after_acts, act_step}
use Rattle.text_block_renderer.proofs.ActParts.{top_stays}
use Rattle.tbr_renderer.proofs.RowsOfCells.{row_flushes, under_row, each_own}
use Rattle.text_block_renderer.proofs.CellsInRows.{put_written}
use Rattle.text_block_renderer.proofs.LineCharacters.{Have, spaces_have, narrow_has, border_has, front_has, Has, lines_put, border_put, flush_keeps}
use Rattle.text_block_renderer.proofs.CallCharacters.{call_keeps}

module _ {T : Type 0} (columns : ℕ → Option ℕ) (draws : DrawsInOne columns) where
  abbrev LineHas : RenderLine T → Type 0
  LineHas l = Have columns (line_items l)

  -- ---- a cell in a line of a row

  line_under : (tag : T) (l : RenderLine T) → LineHas l → Have columns (items_under tag l)
  line_under tag (Text es) h = h
  line_under tag (Rule b) h = border_has columns draws tag b (front_has columns b.tag b h)

  filler_has : (tag : T) (width : ℕ) (bottom : Option (Border T)) → Have columns (text_items (filler_above width bottom) tag)
  filler_has tag width None = spaces_have columns draws width tag
  filler_has tag width (Some b) = narrow_has columns draws (map line_above b.cells) tag (above_narrow b.cells)

  -- what a row shows of a cell
  shows_have : (collapses : Bool) (top : Option (Border T)) (tag : T) (c : Overhanging T) (ls : List (RenderLine T)) → Each LineHas ls → Have columns (cell_shows tag (column_of collapses top c) ls)
  shows_have collapses top tag c [] h = filler_has tag c.width (let k = column_of collapses top c in k.bottom)
  shows_have collapses top tag c (l ∷ ls) h = line_under tag l h.0

  cell_text_has : (collapses : Bool) (top : Option (Border T)) (tag : T) (i : ℕ) (c : Overhanging T) → CellHasColumns columns c → Have columns (cell_text tag i (column_of collapses top c))
  cell_text_has collapses top tag i c h =
      let ls = (let k = column_of collapses top c in k.cell.lines) in
      shows_have collapses top tag c (drop i ls) (each_drop LineHas i ls (lines_stay LineHas collapses top c h))

  row_text_has : (separator : Item T) (texts : List (List (Item T))) → ItemHasColumns columns separator → Each (Have columns) texts → Have columns (row_text separator texts)
  row_text_has separator [] s h = tt
  row_text_has separator (t ∷ []) s h = h.0
  row_text_has separator (t ∷ u ∷ texts) s h = each_append (ItemHasColumns columns) t (separator ∷ row_text separator (u ∷ texts)) h.0 (s, row_text_has separator (u ∷ texts) s h.1)

  texts_of_cells : (collapses : Bool) (top : Option (Border T)) (tag : T) (i : ℕ) (cs : List (Overhanging T)) → Each (CellHasColumns columns) cs → Each (Have columns)
      (map (cell_text tag i) (map (column_of collapses top) cs))
  texts_of_cells collapses top tag i [] h = tt
  texts_of_cells collapses top tag i (c ∷ cs) h = (cell_text_has collapses top tag i c h.0, texts_of_cells collapses top tag i cs h.1)

  lines_have : (separator : Item T) (collapses : Bool) (top : Option (Border T)) (tag : T) (cs : List (Overhanging T)) → ItemHasColumns columns separator → Each (CellHasColumns columns) cs →
      (numbers : List ℕ) →
      Each (Have columns) (map (line_text separator tag (map (column_of collapses top) cs)) numbers)
  lines_have separator collapses top tag cs s h [] = tt
  lines_have separator collapses top tag cs s h (i ∷ numbers) =
      (row_text_has separator (map (cell_text tag i) (map (column_of collapses top) cs)) s (texts_of_cells collapses top tag i cs h), lines_have separator collapses top tag cs s h numbers)

  separates : (style : RowStyle) (tag : T) → ItemHasColumns columns (glyph (separator_in style) tag)
  separates style tag = cond_both style.draws_borders 0x2502 32 (λ c. ItemHasColumns columns (glyph c tag)) (λ e. (narrow_has columns draws (0x2502 ∷ []) tag (refl, tt)).0)
      (λ e. (spaces_have columns draws 1 tag).0)

  -- ---- the border below

  module _ (same : T → T → Bool) (tells : TellsApart same) where
    line_in_gap : (tag : T) (width : ℕ) (ls : List (RenderLine T)) → Each LineHas ls → Have columns (items_of (gap_of same tag width (first_line ls)))
    line_in_gap tag width [] k = each_append (ItemHasColumns columns) (text_items (spaces width) tag) [] (spaces_have columns draws width tag) tt
    line_in_gap tag width (Text line ∷ ls) k = k.0
    line_in_gap tag width (Rule b ∷ ls) k = subst (Have columns) (sym (longest_items same tells (shown b.tag b))) k.0

    gap_has : (tag : T) (drawn : Bool) (d : Overhanging T) → CellHasColumns columns d → Have columns (items_of (gap_in same drawn tag d))
    gap_has tag drawn d k =
        cond_both (has_gap drawn d) (gap_of same tag d.width (first_line d.lines)) [] (λ (es : List (Element T)). Have columns (items_of es)) (λ _. line_in_gap tag d.width d.lines k) (λ _. tt)

    gaps_have : (tag : T) (drawn : Bool) (ds : List (Overhanging T)) (b : Border T) → Each (CellHasColumns columns) ds → Have columns (text_before b) →
        Have columns (text_before (fold (with_gap same columns drawn tag) b ds))
    gaps_have tag drawn [] b k t = t
    gaps_have tag drawn (d ∷ ds) b k t =
        gaps_have tag drawn ds (with_gap same columns drawn tag b d) k.1
        (subst (Have columns) (sym (put_written columns tag d.place b (gap_in same drawn tag d))) (each_append (ItemHasColumns columns) (text_before b) _ t (gap_has tag drawn d k.0)))

  -- ---- a row of cells

  overhang_has : (drawn : Bool) (cs : List (Overhanging T)) → Each (CellHasColumns columns) cs → Each (CellHasColumns columns) (overhang drawn cs)
  overhang_has drawn [] h = tt
  overhang_has drawn (c ∷ cs) h =
      each_append (CellHasColumns columns) (overhang_of drawn c) (overhang drawn cs)
      (cond_both (nat_lt 1 c.span) (record c { span = c.span - 1; lines = drop (if drawn then 1 else 0) c.lines } ∷ []) [] (Each (CellHasColumns columns))
      (λ e. (each_drop LineHas (if drawn then 1 else 0) c.lines h.0, tt)) (λ e. tt)) (overhang_has drawn cs h.1)

  abbrev NextHas : Option (Border T) → Type 0
  NextHas None = Unit {0}
  NextHas (Some b) = Have columns (text_before b)

  module _ (same : T → T → Bool) (tells : TellsApart same) (style : RowStyle) (tag : T) (top : Option (Border T)) (cells : List (Overhanging T))
      (cells_have : Each (CellHasColumns columns) cells) where
    abbrev row_of_cells : SeenRow T
    row_of_cells = row_under same columns style tag top cells

    abbrev height : ℕ
    height = row_height (shown_in style top cells)

    shown_are : shown_in style top cells ≡ map (column_of style.collapses top) cells
    shown_are = columns_are style.collapses top cells

    left_of_cells : (n : ℕ) (cs : List (Overhanging T)) → Each (CellHasColumns columns) cs → Each (CellHasColumns columns) (cells_left n (map (column_of style.collapses top) cs))
    left_of_cells n [] h = tt
    left_of_cells n (c ∷ cs) h = (each_drop LineHas n _ (lines_stay LineHas style.collapses top c h.0), left_of_cells n cs h.1)

    left_have : Each (CellHasColumns columns) (left_in style top cells)
    left_have = subst (λ ks. Each (CellHasColumns columns) (cells_left height ks)) (sym shown_are) (left_of_cells height cells cells_have)

    pub texts_have : Each (Have columns) row_of_cells.lines
    texts_have =
        let separator : Item T = glyph (separator_in style) tag in
        let numbers = numbers_below height in
        subst (λ ks. Each (Have columns) (map (line_text separator tag ks) numbers)) (sym shown_are)
        (lines_have separator style.collapses top tag cells (separates style tag) cells_have numbers)

    pub next_has : NextHas row_of_cells.next
    next_has =
        let plain : Border T = plain_border (row_width cells) tag in
        let begun = next_begun style top cells plain in
        let none : begun.holes ≡ [] = (begins_plain style top cells plain).1 refl in
        let full = gaps_have same tells tag style.draws_borders (left_in style top cells) begun left_have
        (subst (λ (hs : List (Hole T)). Have columns (flat_map (λ (h : Hole T). element_items h.element) hs)) (sym none) tt) in
        cond_both style.draws_borders (Some (border_below same columns style tag top cells)) None NextHas (λ e. full) (λ e. tt)

    pub rest_has : Each (CellHasColumns columns) row_of_cells.overhang
    rest_has = overhang_has style.draws_borders (left_in style top cells) left_have

  -- ---- what comes into a row

  module _ (same : T → T → Bool) (tells : TellsApart same) (tag : T) where
    line_filled : (align : CellAlign) (width : ℕ) (l : Line T) → LineHasColumns columns l → LineHas (filled same columns align width tag l)
    line_filled align width (text is) k =
        let missing = width - items_width columns is in
        let front = text_items (spaces (columns_in_front align missing)) tag in
        let back = text_items (spaces (missing - columns_in_front align missing)) tag in
        subst (Have columns) (sym (longest_items same tells (aligned_items align is missing tag)))
        (each_append (ItemHasColumns columns) (front ++ is) back (each_append (ItemHasColumns columns) front is (spaces_have columns draws (columns_in_front align missing) tag) k)
        (spaces_have columns draws (missing - columns_in_front align missing) tag))
    line_filled align width (border b) k = border_has columns draws b.tag (recelled (stretched width b.cells) b) (front_has columns b.tag b k)

    own_have : (cells : List (GivenCell T)) → Each (λ (g : GivenCell T). LinesHaveColumns columns g.lines) cells → Each (CellHasColumns columns) (cells_from same columns tag 0 cells)
    own_have =
        each_own same columns tag (λ (g : GivenCell T). LinesHaveColumns columns g.lines) (CellHasColumns columns)
        (λ g at k. each_map (filled same columns g.align g.width tag) (LineHasColumns columns) LineHas (line_filled g.align g.width) g.lines k) 0

  -- lines that stay where a row comes
  stay_have : (ls ms : List (Line T)) → AllZip StaysLine ls ms → LinesHaveColumns columns ls → LinesHaveColumns columns ms
  stay_have [] [] h k = tt
  stay_have (text is ∷ ls) (text js ∷ ms) h k = (subst (Have columns) (sym h.0) k.0, stay_have ls ms h.1 k.1)
  stay_have (border b ∷ ls) (border c ∷ ms) h k = (
    border_has columns draws c.tag c (subst (λ (hs : List (Hole T)). Have columns (flat_map (λ (i : Hole T). element_items i.element) hs)) (sym h.0.1)
        (front_has columns b.tag b k.0)),
    stay_have ls ms h.1 k.1,
  )
  stay_have (l ∷ ls) (m ∷ ms) h k = absurd h.0
  stay_have ls ms h k = absurd h

  -- ---- footnotes

  cut_have : (width : Option ℕ) (held is : List (Item T)) → Have columns held → Have columns is → Each (Have columns) (cut_lines columns width held is)
  cut_have width held [] h k = (h, tt)
  cut_have width held (i ∷ is) h k =
      cond_both (fits_after columns width held (item_width columns i)) _ _ (Each (Have columns))
      (λ e. cut_have width (held ++ i ∷ []) is (each_append (ItemHasColumns columns) held (i ∷ []) h (k.0, tt)) k.1) (λ e. (h, cut_have width (i ∷ []) is (k.0, tt) k.1))

module _ {D A : Type 0} (columns : ℕ → Option ℕ) (draws : DrawsInOne columns) where
  next_put : (r : Renderer D A (List A)) (o : Option (Border (List A))) → NextHas columns draws o → Has columns draws r → Has columns draws (with_next columns r o)
  next_put r None h k = k
  next_put r (Some b) h k = border_put columns draws r b h k

  row_keeps : (p : PutRow D A columns) → Each (GivenHasColumns columns) p.cells → Has columns draws p.before → Has columns draws (after_put columns p)
  row_keeps p good k =
      let m : Renderer D A (List A) = p.before in
      let seen : SeenRow (List A) = row_shown p in
      let style = style_in m p.collapses in
      let own = own_have columns draws p.same p.tells m.annotations p.cells good in
      let have = each_seated (CellHasColumns columns) (λ at width. tt) 0 m.hanging (own_cells p.same columns p.cells m) p.seated k.1 own p.are_seated in
      let top : Has columns draws (under_row m seen) = (
        stay_have columns draws m.lines _ (top_stays columns p) k.0,
        rest_has columns draws p.same p.tells style m.annotations (last_border m.lines) p.seated have,
      ) in
      next_put _ seen.next (next_has columns draws p.same p.tells style m.annotations (last_border m.lines) p.seated have)
      (lines_put columns draws seen.lines _ (texts_have columns draws p.same p.tells style m.annotations (last_border m.lines) p.seated have) top)

  pub footnotes_have : (r : Renderer D A (List A)) (links : List (List (Element A))) → Each (λ es. Have columns (footnote_items es)) links → Each (Have columns)
      (flat_map (footnote_lines columns r) links)
  footnotes_have r [] h = tt
  footnotes_have r (es ∷ links) h = each_append (Have columns) (footnote_lines columns r es) (flat_map (footnote_lines columns r) links)
      (cut_have columns draws (link_width r.options r.width) [] (footnote_items es) tt h.0) (footnotes_have r links h.1)

  module _ (decoration : Decoration D A) where
    act_keeps : (act : Act A) (r s : Renderer D A (List A)) → ActHasColumns columns act → ActStep columns decoration act r s → Has columns draws r → Has columns draws s
    act_keeps (call c) r s good h k = call_keeps columns draws decoration c r s good h k
    act_keeps (row collapses cells) r s good (m, flushed, seated, are, is, brings) k =
        subst (λ (q : Renderer D A (List A)). Has columns draws q) (sym is)
        (row_keeps (row_to_put columns decoration collapses cells m seated are) good (flush_keeps columns draws r m r.block (row_flushes columns r m flushed) k))
    act_keeps (fmt_links links) r s good h k = subst (λ (q : Renderer D A (List A)). Has columns draws q) (sym h)
        (lines_put columns draws (flat_map (footnote_lines columns r) links) r (footnotes_have r links good) k)
    act_keeps (finalise targets) r s good h k = subst (λ (q : Renderer D A (List A)). Has columns draws q) (sym h) k

    pub act_has : (act : Act A) (r s : Renderer D A (List A)) → ActHasColumns columns act → after_act columns decoration act r ≡ done s → Has columns draws r → Has columns draws s
    act_has act r s good h k = act_keeps act r s good (act_step columns decoration act r s h) k

    pub acts_keep : (acts : List (Act A)) (r s : Renderer D A (List A)) → Each (ActHasColumns columns) acts → after_acts columns decoration acts r ≡ done s → Has columns draws r → Has columns draws s
    acts_keep [] r s good h k = subst (λ (q : Renderer D A (List A)). Has columns draws q) (sym (one_done r s h)) k
    acts_keep (act ∷ acts) r s good h k =
        let (m, does, others) = done_first (after_act columns decoration act r) (after_acts columns decoration acts) s h in
        acts_keep acts m s good.1 others (act_has act r m good.0 does k)
