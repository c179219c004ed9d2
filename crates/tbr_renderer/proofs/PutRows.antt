-- Rows of cells that a renderer puts.
use Rattle.tbr_renderer.proofs.Common.{◌≡◌, ℕ, ◌+◌, ◌-◌, ◌↔◌, IsTrue, Bool, true, is_none, Option, None, Some, unwrap_or, List, [], ◌∷◌, ◌++◌, map, fold, drop, length, refl, ap, sym, ◌∙◌}
use Rattle.tbr_renderer.proofs.Common.{subst, arith, option_map, AllZip, Each, length-append, drop-drop, nil_from_length, all_zipped_more, Item, items_width, Border, IsEquivalence, items_of}
use Rattle.tbr_renderer.proofs.Common.{text_items, SameItems, same_items, same_items_trans, same_items_append, spaces, IsMergedText, CellAlign, Left, RenderLine, Text, Rule, AreSideBySide}
use Rattle.tbr_renderer.proofs.Common.{spots_from, row_fits, cell_after, SeenRow, Line, text, border, line_seen, text_lines, SameSeen, Renderer, with_line, before_border, done, after_flush}
use Rattle.tbr_renderer.proofs.Common.{handed_out, is_blank, looks, LeavesFree, GivenCell, FillsKept, filled, cells_from, next_align, cells_handed_out, style_in, with_row, row_put_of}
use Rattle.tbr_renderer.proofs.Common.{same_annotations}
use Rattle.std.specs.Borrow.{Bor}
use Rattle.std.specs.Option.{MatchOption, option_copied}
use Rattle.tbr_border.specs.Border.{with_cells, stretched}
use Rattle.tbr_tagged.proofs.SameItems.{same_width}
use Rattle.tbr_tagged.specs.Padding.{columns_in_front, aligned_items}
use Rattle.tbr_rows.specs.Cells.{IsAsFree, first_line, look, spot_of}
use Rattle.tbr_rows.specs.Filled.{FillsLine, FillsText}
use Rattle.tbr_rows.specs.Rows.{row_seen, row_of, IsLaidOut}
use Rattle.tbr_rows.specs.Stretches.{longest}
use Rattle.tbr_rows.specs.declared.Row.{Row}
use Rattle.tbr_rows.specs.declared.RowStyle.{RowStyle}
use Rattle.tbr_rows.specs.declared.LineSet.{LineSet as Cell}
use Rattle.tbr_rows.proofs.Fitted.{spots_are, fits_with_fewer_lines}
use Rattle.tbr_rows.proofs.AlikeRows.{laid_is_seen}
use Rattle.tbr_rows.proofs.Stretches.{longest_once}
use Rattle.tbr_tags.specs.Tells.{told_equiv}
use Rattle.tbr_kept_lines.specs.LastBorder.{last_border}
use Rattle.tbr_renderer.proofs.FlushedBlocks.{flush_keeps}
use Rattle.tbr_renderer.specs.Rows.{spots_of, with_row_after, row_in}
use Rattle.tbr_renderer.proofs.GivenCells.{given_last}
use Rattle.tbr_renderer.proofs.BlankRenderers.{blank_hands_none}
use Rattle.tbr_annotations.proofs.Told.{annotations_tell, elements_told}

-- ---- a row that is put

module _ {D A : Type 0} (columns : ℕ → Option ℕ) where
  -- in the place of the border above
  pub row_placed : (r s0 s1 s2 : Renderer D A (List A)) (row : SeenRow (List A)) → s0 ≡ record r { hanging = [] } →
      s1 ≡ record s0 { lines = before_border s0.lines } → s2 ≡ with_row_after columns s1 row → s2 ≡ with_row columns r row
  row_placed r s0 s1 s2 row taken cut put =
      put ∙ (λ i. with_row_after columns (cut i) row) ∙ (λ i. with_row_after columns (record (taken i) { lines = before_border (taken i).lines }) row)

-- a row that was laid out
module _ {D A : Type 0} (same : A → A → Bool) (tells : (a b : A) → IsTrue (same a b) ↔ (a ≡ b)) (columns : ℕ → Option ℕ) where
  pub row_is_put : (r s0 s1 s2 : Renderer D A (List A)) (row : Row (List A)) (seen : SeenRow (List A))
      (hanging own : List (Cell (List A))) (above : Option (Border (List A))) (style : RowStyle) (tag : List A) (collapses : Bool) →
      hanging ≡ r.hanging → s0 ≡ record r { hanging = [] } → above ≡ last_border s0.lines → s1 ≡ record s0 { lines = before_border s0.lines } → style ≡ style_in r collapses → tag ≡ r.annotations →
      row_of (same_annotations same) columns style tag hanging own above ≡ Some seen → IsLaidOut (same_annotations same) row seen → s2 ≡ with_row_after columns s1 (row_seen row) →
      row_put_of (same_annotations same) columns collapses r own ≡ Some s2
  row_is_put r s0 s1 s2 row seen hanging own above style tag collapses hung taken top cut style_is tag_is is laid put =
      let eq = same_annotations same in
      let border_is : above ≡ last_border r.lines = top ∙ ap (λ (q : Renderer D A (List A)). last_border q.lines) taken in
      let there : row_in eq columns collapses r own ≡ Some seen = sym (λ i. row_of eq columns (style_is i) (tag_is i) (hung i) own (border_is i)) ∙ is in
      let told = put ∙ ap (with_row_after columns s1) (laid_is_seen eq (annotations_tell same tells) row seen laid) in
      ap (option_map (with_row columns r)) there ∙ ap Some (sym (row_placed columns r s0 s1 s2 seen taken cut told))

-- ---- what a flush leaves of the overhanging cells

module _ {D A : Type 0} (columns : ℕ → Option ℕ) where
  lines_hang : (ts : List (List (Item (List A)))) (q : Renderer D A (List A)) → (fold (with_line columns) q ts).hanging ≡ q.hanging
  lines_hang [] q = refl
  lines_hang (t ∷ ts) q = lines_hang ts (with_line columns q t)

  pub flush_hangs : (r s : Renderer D A (List A)) → after_flush columns r ≡ done s → s.hanging ≡ r.hanging
  flush_hangs r s h = flush_keeps columns r s (λ (q : Renderer D A (List A)). q.hanging) (λ texts names. lines_hang texts (record r { block = None })) h

-- ---- whether the row fits

freed : {D A T : Type 0} (columns : ℕ → Option ℕ) (at : ℕ) (cols : List (Renderer D A T × ℕ)) (cells : List (Cell T))
    → AllZip (LeavesFree columns) cols cells → AllZip IsAsFree (spots_from at (map (looks columns) cols)) (spots_from at (map look cells))
freed columns at [] [] h = tt
freed columns at [] (c ∷ cs) h = absurd h
freed columns at (d ∷ ds) [] h = absurd h
freed {D} {A} {T} columns at (d ∷ ds) (c ∷ cs) h =
    let wide : c.width ≡ d.0.width = h.0.0 in
    let none : is_blank columns d.0 ≡ true → is_none (first_line c.lines) ≡ true = λ blank. ap (λ ls. is_none (first_line ls)) (h.0.1 blank) in (
      (refl, wide, none),
      subst (λ n. AllZip IsAsFree (spots_from (at + d.0.width + 1) (map (looks columns) ds)) (spots_from (at + n + 1) (map look cs))) (sym wide) (freed columns (at + d.0.width + 1) ds cs h.1),
    )

-- the row of the cells fits where that of the renderers does
pub still_fits : {D A : Type 0} (columns : ℕ → Option ℕ) (r s : Renderer D A (List A))
    (cols : List (Renderer D A (List A) × ℕ)) (cells : List (Cell (List A))) → after_flush columns r ≡ done s →
    AreSideBySide 0 cells → AllZip (LeavesFree columns) cols cells →
    row_fits r.hanging (spots_of columns cols) ≡ true → row_fits s.hanging (map spot_of cells) ≡ true
still_fits columns r s cols cells flushes stand free fits =
    let same : row_fits s.hanging (spots_of columns cols) ≡ row_fits r.hanging (spots_of columns cols) = ap (λ hs. row_fits hs (spots_of columns cols)) (flush_hangs columns r s flushes) in
    ap (row_fits s.hanging) (spots_are cells stand) ∙ fits_with_fewer_lines s.hanging (spots_of columns cols) (spots_from 0 (map look cells)) (freed columns 0 cols cells free) (same ∙ fits)

-- ---- cells that come one after another

-- a line of a cell is filled
module _ {A : Type 0} (same : A → A → Bool) (tells : (a b : A) → IsTrue (same a b) ↔ (a ≡ b)) (columns : ℕ → Option ℕ) (align : CellAlign) (width : ℕ) (tag : List A) where
  line_fills : (l : Line (List A)) (done : RenderLine (List A)) → FillsKept columns (same_annotations same) align width tag l done → done ≡ filled (same_annotations same) columns align width tag l
  line_fills (text is) (Text es) h =
      let eq = same_annotations same in
      let shown = aligned_items align is (width - items_width columns is) tag in
      ap Text (elements_told same tells es (longest eq shown) (longest_once eq (told_equiv eq (annotations_tell same tells)) es shown h.0 h.1))
  line_fills (border b) (Rule c) h = ap Rule h
  line_fills (text is) (Rule c) h = absurd h
  line_fills (border b) (Text es) h = absurd h

  pub lines_fill : (ls : List (Line (List A))) (done : List (RenderLine (List A))) → AllZip (FillsKept columns (same_annotations same) align width tag) ls done →
      done ≡ map (filled (same_annotations same) columns align width tag) ls
  lines_fill [] [] h = refl
  lines_fill [] (d ∷ ds) h = absurd h
  lines_fill (l ∷ ls) [] h = absurd h
  lines_fill (l ∷ ls) (d ∷ ds) h = let first = line_fills l d h.0 in let rest = lines_fill ls ds h.1 in λ i. first i ∷ rest i

-- lines of a cell, as they are handed to a row
module _ {A : Type 0} (eq : A → A → Bool) (laws : IsEquivalence eq) (columns : ℕ → Option ℕ) (align : CellAlign) (width : ℕ) (a : A) where
  -- one by one
  by_itself : (line : RenderLine A) (l : Line A) (filled : RenderLine A) → SameSeen eq (line_seen line) l →
      IsMergedText eq line → FillsLine columns eq align width a line filled → FillsKept columns eq align width a l filled
  by_itself (Text es) (text is) (Text fs) same merged h =
      let missing = width - items_width columns (items_of es) in
      let front = text_items (spaces (columns_in_front align missing)) a in
      let after = text_items (spaces (missing - columns_in_front align missing)) a in
      let join = same_items_append eq laws in
      let aligned : SameItems eq (aligned_items align (items_of es) missing a) (aligned_items align is missing a) =
      join (front ++ items_of es) (front ++ is) after after (join front front (items_of es) is (same_items eq laws front) same) (same_items eq laws after) in (
        subst (λ n. SameItems eq (items_of fs) (aligned_items align is (width - n) a))
            (same_width columns eq (items_of es) is same)
            (same_items_trans eq laws (items_of fs) (aligned_items align (items_of es) missing a) (aligned_items align is missing a) h.0 aligned),
        h.1 merged,
      )
  by_itself (Rule b) (border c) (Rule d) same merged h = h ∙ ap (λ (e : Border A). with_cells (stretched width e.cells) e) same
  by_itself (Text es) (text is) (Rule d) same merged h = absurd h
  by_itself (Rule b) (border c) (Text fs) same merged h = absurd h
  by_itself (Text es) (border c) filled same merged h = absurd same
  by_itself (Rule b) (text is) filled same merged h = absurd same

  pub all_by_themselves : (lines : List (RenderLine A)) (ls : List (Line A)) (filled : List (RenderLine A)) →
      AllZip (SameSeen eq) (map line_seen lines) ls → Each (IsMergedText eq) lines → AllZip (FillsLine columns eq align width a) lines filled →
      AllZip (FillsKept columns eq align width a) ls filled
  all_by_themselves [] [] filled same merged h = h
  all_by_themselves [] (l ∷ ls) filled same merged h = absurd same
  all_by_themselves (line ∷ lines) [] filled same merged h = absurd same
  all_by_themselves (line ∷ lines) (l ∷ ls) [] same merged h = absurd h
  all_by_themselves (line ∷ lines) (l ∷ ls) (d ∷ ds) same merged h = (by_itself line l d same.0 merged.0 h.0, all_by_themselves lines ls ds same.1 merged.1 h.1)

  -- in a block's text
  in_text : (is : List (Item A)) (filled : RenderLine A) → FillsText columns eq align width a is filled → FillsKept columns eq align width a (text is) filled
  in_text is (Text fs) h = h
  in_text is (Rule d) h = absurd h

  pub all_in_text : (texts : List (List (Item A))) (filled : List (RenderLine A)) →
      AllZip (FillsText columns eq align width a) texts filled → AllZip (FillsKept columns eq align width a) (text_lines texts) filled
  all_in_text [] filled h = h
  all_in_text (is ∷ texts) [] h = absurd h
  all_in_text (is ∷ texts) (d ∷ ds) h = (in_text is d h.0, all_in_text texts ds h.1)

module _ {A : Type 0} (same : List A → List A → Bool) (columns : ℕ → Option ℕ) (tag : List A) where
  -- a cell in the row is one that comes
  abbrev ComesAs : GivenCell (List A) → Cell (List A) → Type 0
  ComesAs given cell =
      (cell.width ≡ given.width) × (cell.span ≡ given.span) × (cell.lines ≡ map (filled same columns given.align given.width tag) given.lines)

  pub all_come : (at : ℕ) (cells : List (GivenCell (List A))) (own : List (Cell (List A))) → AllZip ComesAs cells own → AreSideBySide at own → own ≡ cells_from same columns tag at cells
  all_come at [] [] h s = refl
  all_come at [] (c ∷ cs) h s = absurd h
  all_come at (g ∷ gs) [] h s = absurd h
  all_come at (g ∷ gs) (c ∷ cs) h s =
      let next : c.place + c.width + 1 ≡ at + g.width + 1 = λ i. s.0 i + h.0.0 i + 1 in
      let rest = all_come (at + g.width + 1) gs cs h.1 (subst (λ n. AreSideBySide n cs) next s.1) in
      λ i. record { place = s.0 i; width = h.0.0 i; span = h.0.1 i; lines = h.0.2 i } ∷ rest i

module _ {D A : Type 0} (same : List A → List A → Bool) (columns : ℕ → Option ℕ) (aligns : List CellAlign) (tag : List A) where
  -- the cells of some renderers, and the alignments that are left
  pub record HasColumns (cols : List (Renderer D A (List A) × ℕ)) (own : List (Cell (List A))) (left : List CellAlign) : Type 0 where
    pub cells : List (GivenCell (List A))
    pub given : cells_handed_out columns cols aligns ≡ done cells
    pub left_is : left ≡ drop (length cols) aligns
    pub come : AllZip (ComesAs same columns tag) cells own
    pub free : AllZip (LeavesFree columns) cols own

  pub no_columns : HasColumns [] [] aligns
  no_columns = record { cells = []; given = refl; left_is = refl; come = tt; free = tt }

  pub columns_go_on : (cols : List (Renderer D A (List A) × ℕ)) (own next : List (Cell (List A)))
      (left rest : List CellAlign) (col : Renderer D A (List A)) (span : ℕ) (align : CellAlign)
      (seen : List (Line (List A))) (done_lines : List (RenderLine (List A))) → (h : HasColumns cols own left) →
      handed_out columns col ≡ done seen → align ≡ next_align left → rest ≡ drop 1 left →
      done_lines ≡ map (filled same columns align col.width tag) seen →
      next ≡ own ++ cell_after own col.width span done_lines ∷ [] → HasColumns (cols ++ (col, span) ∷ []) next rest
  columns_go_on cols own next left rest col span align seen done_lines h hands aligned_by rest_is fills is =
      let cell : GivenCell (List A) = record { width = col.width; span = span; align = align; lines = seen } in
      let placed : Cell (List A) = cell_after own col.width span done_lines in
      record {
        cells = h.cells ++ cell ∷ [];
        given =
            given_last (λ r. r.width) (λ r. handed_out columns r) cols aligns h.cells (col, span) h.given seen hands
            ∙ ap (λ (a : CellAlign). done (h.cells ++ record { width = col.width; span = span; align = a; lines = seen } ∷ [])) (sym (aligned_by ∙ ap next_align h.left_is));
        left_is =
            rest_is ∙ ap (drop 1) h.left_is ∙ drop-drop 1 (length cols) aligns ∙ ap (λ n. drop n aligns) (sym (length-append cols ((col, span) ∷ [])));
        come = subst (AllZip (ComesAs same columns tag) (h.cells ++ cell ∷ [])) (sym is) (all_zipped_more (ComesAs same columns tag) h.cells own cell placed h.come (refl, refl, fills));
        free =
            subst (AllZip (LeavesFree columns) (cols ++ (col, span) ∷ [])) (sym is)
            (all_zipped_more (LeavesFree columns) cols own (col, span) placed h.free (
              refl,
              λ blank. fills ∙ ap (map (filled same columns align col.width tag)) (blank_hands_none columns col seen blank hands),
            ));
      }

-- the alignment that comes next
pub next_taken : {I : Type 0} (get : I → List CellAlign) (it next : I) (o : Option (Bor CellAlign))
    (align : CellAlign) → MatchOption o ((length (get it) ≡ 0) × (next ≡ it)) (λ x. get it ≡ x.now ∷ get next) →
    align ≡ unwrap_or (option_copied o) Left →
    (align ≡ next_align (get it)) × (get next ≡ drop 1 (get it))
next_taken get it next None align none is = grind (arith, nil_from_length)
next_taken get it next (Some x) align some is = (is ∙ ap next_align (sym some), ap (drop 1) (sym some))
