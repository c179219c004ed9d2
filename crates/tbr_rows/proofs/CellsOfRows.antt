-- What rows show of their cells.
use Rattle.tbr_rows.proofs.Common.{◌≡◌, ℕ, ◌-◌, ◌<◌, ◌≤◌, Bool, true, false, if◌then◌else◌, Option, None, Some, unwrap_or, List, [], ◌∷◌, ◌++◌, map, flat_map, fold, drop, length, refl, ap}
use Rattle.tbr_rows.proofs.Common.{sym, ◌∙◌, subst, arith, append_assoc, nat_lt, replicate, slice_get, Each, and_parts, cond_both, map-map, length-replicate, map-append, flat_map-append}
use Rattle.tbr_rows.proofs.Common.{Item, glyph, each_append, each_front, each_back, each_map, Element, items_of, RenderLine, Text, Line, line_items, Border, Cell, Column, AreSideBySide}
use Rattle.tbr_rows.proofs.Common.{AreApart, cell_height, first_line, row_width, row_height, line_text, cell_text, text_of_lines, dropped, cell_in, has_gap, gap_of, with_gap, overhang}
use Rattle.tbr_rows.proofs.Common.{separator_in, cells_left, next_begun, shown_in, left_in, border_below, met, continued, goes_on, later_of, AreItsRows, DrawsInOne, MadeRow, StandsAmong}
use Rattle.tbr_rows.proofs.Common.{Fills, IsFilled, HasInColumns}
use Rattle.std.proofs.lemmas.Bool.{le-ltb, lt-ltb}
use Rattle.tbr_model.specs.Codes.{space_character}
use Rattle.tbr_border.specs.Border.{without_holes, shown as shown_items}
use Rattle.tbr_border.specs.Cell.{horizontal}
use Rattle.tbr_rows.specs.Rows.{vertical_bar}
use Rattle.tbr_rows.proofs.Stretches.{longest_items}
use Rattle.tbr_rows.proofs.Seats.{stand_side_by_side}
use Rattle.tbr_rows.proofs.CellColumns.{count_lines, drop_at, first_text, line_at, stands_at}
pub use Rattle.tbr_rows.proofs.FilledCells.{aligned_width}
use Rattle.tbr_rows.proofs.AllLines.{row_is_high_enough, all_texts, rows_go_on}
use Rattle.tbr_rows.specs.CellsShown.{row_made, meeting_in, ShowsAt, ShowsBelow, StandsInItsColumns, StandsInAll, FollowOneAnother, HasFilledCells, IsOfFirst, ShowsTexts}
use Rattle.tbr_rows.proofs.Among.{among_map, each_among, each_drop}
use Rattle.tbr_rows.proofs.ColumnsOfRows.{column_fills, column_of, columns_are, columns_fill, columns_side_by_side, keep_places, rest_apart, lines_stay}
use Rattle.tbr_rows.proofs.CellsSeated.{among_seated, each_seated}
use Rattle.tbr_rows.proofs.BelowRows.{begins_plain, within_row, gap_stands}

-- ---- one row

module _ {A : Type 0} (columns : ℕ → Option ℕ) (one : DrawsInOne columns) (r : MadeRow A columns) where
  one_wide : (draws : Bool) → columns (if draws then vertical_bar else space_character) ≡ Some 1
  one_wide true = one vertical_bar refl
  one_wide false = one space_character refl

  abbrev shown : List (Column A)
  shown = shown_in r.style r.top r.cells

  abbrev height : ℕ
  height = row_height shown

  abbrev separator : Item A
  separator = glyph (separator_in r.style) r.tag

  -- what it shows of a cell, and leaves of it
  abbrev column_in : Cell A → Column A
  column_in c = column_of r.style.collapses r.top c

  abbrev left_of : Cell A → Cell A
  left_of c = cell_in (dropped height (column_in c))

  pub all_filled : Each (IsFilled columns) r.hanging → Each (IsFilled columns) r.own → Each (IsFilled columns) r.cells
  all_filled h k = each_seated (IsFilled columns) (λ at width. tt) 0 r.hanging r.own r.cells h k r.seated

  shown_are : shown ≡ map column_in r.cells
  shown_are = columns_are r.style.collapses r.top r.cells

  all_side_by_side : AreApart 0 r.hanging → AreSideBySide 0 r.cells
  all_side_by_side apart = stand_side_by_side 0 r.hanging r.own r.cells r.side_by_side apart r.seated

  height_is : length (row_made columns r).lines ≡ height
  height_is = count_lines separator r.tag shown height

  left_filled : (c : Cell A) → IsFilled columns c → IsFilled columns (left_of c)
  left_filled c h = each_drop (Fills columns c.width) height (column_in c).cell.lines (lines_stay (Fills columns c.width) r.style.collapses r.top c h)

  first_of : (ls : List (RenderLine A)) (l : RenderLine A) (more : List (RenderLine A)) (w : ℕ) → ls ≡ l ∷ more → items_of (gap_of r.same r.tag w (first_line ls)) ≡ line_items l
  first_of ls (Text line) more w e = rw e refl
  first_of ls (Line b) more w e = rw e (longest_items r.same r.tells (shown_items b.tag b))

  -- a cell among those of the row
  module _ (front : List (Cell A)) (c : Cell A) (rest : List (Cell A)) (is : r.cells ≡ front ++ c ∷ rest) (side : AreSideBySide 0 (front ++ c ∷ rest))
      (filled : Each (IsFilled columns) (front ++ c ∷ rest)) where
    front_filled : Each (IsFilled columns) front
    front_filled = each_front (IsFilled columns) front (c ∷ rest) filled

    own_filled : IsFilled columns c
    own_filled = (each_back (IsFilled columns) front (c ∷ rest) filled).0

    shows_at : (i : ℕ) → i < length (row_made columns r).lines → ShowsAt columns r c i
    shows_at i h =
        let after : List (Column A) = map column_in rest in
        let here : List (Item A) = cell_text r.tag i (column_in c) in
        let parts : shown ≡ map column_in front ++ column_in c ∷ after = shown_are ∙ ap (map column_in) is ∙ map-append column_in front (c ∷ rest) in
        let stands =
        stands_at columns separator r.tag i (map column_in front) (column_in c) after
        (ap (λ (o : Option ℕ). unwrap_or o 0) (one_wide r.style.draws_borders))
        (columns_fill columns one r.style.collapses r.top r.tag i front front_filled)
        (rw map-append at (columns_side_by_side r.style.collapses r.top height (front ++ c ∷ rest) side)) in
        let first = first_text separator r.tag (column_in c) after i in
        let line = line_text separator r.tag shown i in (
          line,
          line_at separator r.tag shown height i (omega (arith, h, height_is)),
          record {
            before = stands.0;
            here = here;
            after = first.0;
            parts = ap (λ cs. line_text separator r.tag cs i) parts ∙ rw (stands.1, first.1) (sym (append_assoc stands.0 here first.0));
            place = stands.2;
            width = column_fills columns one r.style.collapses r.top r.tag i c own_filled;
            is = λ l got. let at = drop_at (column_in c).cell.lines i l got in ap (text_of_lines r.tag (column_in c)) at.1;
          },
        )

    -- and in the border below it
    shows_below : has_gap r.style.draws_borders c ≡ true → ShowsBelow columns r c
    shows_below gap =
        let plain : Border A = without_holes (replicate (row_width r.cells) horizontal) r.tag in
        let begins = begins_plain r.style r.top r.cells plain in
        let begun : Border A = next_begun r.style r.top r.cells plain in
        let full : Border A = border_below r.same columns r.style r.tag r.top r.cells in
        let Is : List (Item A) → Type 0 =
        λ here. (l : RenderLine A) → slice_get (met (meeting_in columns r) c).lines (length (row_made columns r).lines) ≡ Some l → here ≡ line_items l in
        let left_are : left_in r.style r.top r.cells ≡ map left_of front ++ left_of c ∷ map left_of rest =
        ap (cells_left height) shown_are ∙ ap (λ cs. cells_left height (map column_in cs)) is ∙ simp (map-map, map-append) in (
          full,
          ap (λ b. if b then Some full else None) (and_parts r.style.draws_borders (nat_lt 1 c.span) gap).0,
          subst (λ ds. let b = fold (with_gap r.same columns r.style.draws_borders r.tag) begun ds in HasInColumns columns (shown_items b.tag b) c.place c.width Is) (sym left_are)
              (gap_stands columns one r.same r.tells r.style.draws_borders r.tag (map left_of front) (left_of c) (map left_of rest) begun Is gap
              (rw map-append at (keep_places (λ d. (left_of d).lines) 0 (front ++ c ∷ rest) side))
              (each_map left_of (IsFilled columns) (IsFilled columns) left_filled front front_filled) (left_filled c own_filled) (begins.1 refl)
              (omega (arith, within_row 0 front c rest side, ap row_width is, length-replicate (row_width r.cells) horizontal, begins.0))
              (λ l got. let at = drop_at (column_in c).cell.lines height l (rw height_is at got) in first_of (left_of c).lines l at.0 c.width at.1)),
        )

  stands_in_columns : (c : Cell A) → AreApart 0 r.hanging → StandsAmong c r.cells → Each (IsFilled columns) r.cells → StandsInItsColumns columns r c
  stands_in_columns c apart (front, rest, is) filled =
      let side = rw is at (all_side_by_side apart) in
      record { in_lines = shows_at front c rest is side (rw is at filled); in_next = shows_below front c rest is side (rw is at filled) }

  high_enough : (c : Cell A) → StandsAmong c r.cells → cell_height (met (meeting_in columns r) c) ≤ height
  high_enough c k =
      each_among (λ (d : Column A). cell_height d.cell ≤ height) (column_in c) shown (rw shown_are (among_map column_in c r.cells k))
      (row_is_high_enough shown)

  -- ---- what it leaves

  abbrev goes : Cell A → List (Cell A)
  goes c = goes_on r.style.draws_borders (meeting_in columns r) c

  abbrev left : Cell A → Cell A
  left c = continued r.style.draws_borders (meeting_in columns r) c

  overhang_is : (row_made columns r).overhang ≡ flat_map goes r.cells
  overhang_is = rows_go_on r.style.draws_borders r.style.collapses r.top height r.cells

  among_overhang : (c : Cell A) → 1 < c.span → StandsAmong c r.cells → StandsAmong (left c) (row_made columns r).overhang
  among_overhang c long (front, rest, is) =
      (flat_map goes front, flat_map goes rest, overhang_is ∙ ap (flat_map goes) is ∙ rw (flat_map-append, lt-ltb 1 c.span long) refl)

  later_filled : (c : Cell A) → IsFilled columns c → IsFilled columns (left c)
  later_filled c h =
      let ls : List (RenderLine A) = drop (if r.style.draws_borders then 1 else 0) (left_of c).lines in
      cond_both (nat_lt 1 c.span) (record (column_in c).cell { span = c.span - 1; lines = ls } ∷ []) []
      (λ ds. Each (Fills columns c.width) (flat_map (λ (d : Cell A). d.lines) ds))
      (λ e. each_append (Fills columns c.width) ls [] (each_drop (Fills columns c.width) (if r.style.draws_borders then 1 else 0) (left_of c).lines
      (left_filled c h)) tt) (λ e. tt)

  goes_filled : (cs : List (Cell A)) → Each (IsFilled columns) cs → Each (IsFilled columns) (flat_map goes cs)
  goes_filled [] h = tt
  goes_filled (c ∷ cs) h =
      each_append (IsFilled columns) (goes c) (flat_map goes cs) (cond_both (nat_lt 1 c.span) (left c ∷ []) [] (Each (IsFilled columns))
      (λ e. (later_filled c h.0, tt)) (λ e. tt)) (goes_filled cs h.1)

  pub overhang_filled : Each (IsFilled columns) r.cells → Each (IsFilled columns) (row_made columns r).overhang
  overhang_filled h = rw overhang_is (goes_filled r.cells h)

  pub overhang_apart : AreApart 0 r.hanging → AreApart 0 (row_made columns r).overhang
  overhang_apart apart = rest_apart r.style.collapses r.top height r.style.draws_borders r.cells (all_side_by_side apart)

-- ---- over all rows of a cell's span

module _ {A : Type 0} (columns : ℕ → Option ℕ) (one : DrawsInOne columns) (draws : Bool) where
  over : (rows : List (MadeRow A columns)) (c : Cell A) → FollowOneAnother columns draws rows → Each (HasFilledCells columns) rows → IsOfFirst columns c rows → length rows ≡ c.span →
      AreItsRows draws (map (meeting_in columns) rows) c × StandsInAll columns rows c
  over [] c follow fill first span = elim first [ ]
  over (r ∷ []) c follow fill first span =
      let filled = all_filled columns one r first.2 fill.0 in
      let none : later_of draws (row_height (shown_in r.style r.top r.cells)) (met (meeting_in columns r) c) ≡ [] = rw (le-ltb 1 c.span (omega (arith, span))) refl in
      ((high_enough columns one r c first.0, none), (stands_in_columns columns one r c first.1 first.0 filled, tt))
  over (r ∷ q ∷ rows) c follow fill first span =
      let filled = all_filled columns one r first.2 fill.0 in
      let long : 1 < c.span = omega (arith, span) in
      let next : Cell A = left columns one r c in
      let hangs : StandsAmong next q.hanging = rw follow.1 (among_overhang columns one r c long first.0) in
      let hanging_filled : Each (IsFilled columns) q.hanging = rw follow.1 (overhang_filled columns one r filled) in
      let hanging_apart : AreApart 0 q.hanging = rw follow.1 (overhang_apart columns one r first.1) in
      let seated = among_seated 0 next q.hanging q.own q.cells hangs q.seated in
      let others = over (q ∷ rows) next follow.2 fill.1 (seated, hanging_apart, hanging_filled) (omega (arith, span)) in (
        (high_enough columns one r c first.0, subst (λ d. AreItsRows draws (map (meeting_in columns) (q ∷ rows)) (continued d (meeting_in columns r) c)) follow.0 others.0),
        (stands_in_columns columns one r c first.1 first.0 filled, others.1),
      )

  pub shown_over : (rows : List (MadeRow A columns)) (c : Cell A) → FollowOneAnother columns draws rows →
      Each (HasFilledCells columns) rows → IsOfFirst columns c rows → length rows ≡ c.span → ShowsTexts columns draws rows c
  shown_over rows c follow fill first span =
      let both = over rows c follow fill first span in
      record { once = all_texts draws (map (meeting_in columns) rows) c both.0; in_its_columns = both.1 }
