-- The visible characters and the markers of a cell are in the lines of the rows that it spans, and in the borders between them, whatever its width.
use Rattle.text_block_renderer.proofs.Common.{◌≡◌, ℕ, zero, suc, ◌+◌, ◌-◌, ◌<◌, ◌≤◌, ◌⊎◌, inl, inr, is_none, Bool, true, false, if◌then◌else◌, Option, Some, None, List, [], ◌∷◌, ◌++◌, map, flat_map}
use Rattle.text_block_renderer.proofs.Common.{take, drop, length, refl, ap, sym, ◌∙◌, subst, arith, append_assoc, append-nil, rules, nat_lt, cond_both, ltb-true, map-append, flat_map-append}
use Rattle.text_block_renderer.proofs.Common.{Item, items_width, glyph, Border, shown, RenderLine, CellAlign, Element, text_items, spaces, columns_in_front, cell_height, first_line, StandsAmong}
use Rattle.text_block_renderer.proofs.Common.{SeenRow, part_of, later_of, Meeting, met, meeting, as_lines, merged_first, merged_last, first_mergeable}
use Rattle.text_block_renderer.proofs.Common.{without_first_border, separator_in, before_border, Line, text, border, Renderer, line_padding, GivenCell}
use Rattle.text_block_renderer.proofs.Common.{border_lines, border_lines_of, lines_laid, StandWithin, text_before, written, to_show}
use Rattle.text_block_renderer.proofs.Common.{fold, TellsApart, gap_of, gap_in, with_gap, row_under, shown_in, left_in, next_begun, plain_border}
use Rattle.text_block_renderer.proofs.Common.{filled, cells_from, cell_from, own_cells, PutRow, row_shown, style_in, last_border}
use Rattle.tbr_model.specs.Layout.{joined}
use Rattle.tbr_model.proofs.lists.Joined.{joined-append}
use Rattle.tbr_border.specs.declared.RenderLine.TheVariants.{Text, Line as Rule}
use Rattle.tbr_tagged.specs.Elements.{items_of}
use Rattle.tbr_tagged.specs.Padding.{aligned_items}
use Rattle.tbr_rows.specs.Stretches.{longest}
use Rattle.tbr_rows.specs.Cells.{row_width}
use Rattle.tbr_rows.proofs.Stretches.{longest_items}
use Rattle.tbr_rows.specs.declared.LineSet.{LineSet as Cell}
use Rattle.tbr_rows.specs.declared.RowStyle.{RowStyle}
use Rattle.tbr_rows.specs.Gaps.{cell_in, has_gap, with_element, with_elements, overhang_of, overhang}
use Rattle.tbr_border.specs.RenderLine.{items_under}
use Rattle.tbr_rows.specs.Texts.{row_height, row_text, cell_text, dropped, text_of_lines as cell_shows, line_text, numbers_below}
use Rattle.tbr_rows.proofs.Among.{among_cons, among_front, none_among, among_map, each_among}
use Rattle.tbr_rows.proofs.AllLines.{part_and_later, merged_and_left, row_is_high_enough}
use Rattle.tbr_rows.proofs.ColumnsOfRows.{column_of, columns_are, cell_is, span_stays}
use Rattle.tbr_rows.proofs.CellsSeated.{among_own}
use Rattle.text_block_renderer.proofs.Within.{within_on, two_within, itself_within, middle_within, after_within, before_within}
use Rattle.text_block_renderer.proofs.Written.{written-append, stays_written, border_shown, laid_within}
use Rattle.tbr_renderer.proofs.RowsOfCells.{row_beside}
use Rattle.text_block_renderer.proofs.ActSteps.{after_put}
use Rattle.text_block_renderer.proofs.ActParts.{row_lines, top_stays}

-- one more of the first items
one_more : {X : Type 0} (n : ℕ) (xs : List X) → take (suc n) xs ≡ take n xs ++ take 1 (drop n xs)
one_more zero xs = refl
one_more (suc n) [] = refl
one_more (suc n) (x ∷ xs) = ap (λ ys. x ∷ ys) (one_more n xs)

-- ---- the texts of a cell's lines

module _ {T : Type 0} where
  abbrev said : RenderLine T → List (Item T)
  said (Text es) = items_of es
  said (Rule b) = text_before b

  abbrev pub items_in : List (RenderLine T) → List (Item T)
  items_in ls = flat_map said ls

  unwritten : (merges : Bool) (ls : List (RenderLine T)) → items_in (if merges then as_lines (first_mergeable ls) else []) ≡ []
  unwritten merges ls = grind (arith, append-nil)

  -- so a cell and what meets the row say the same
  met_written : (m : Meeting) (c : Cell T) → items_in (met m c).lines ≡ items_in c.lines
  met_written m c =
      let under : List (RenderLine T) = (if m.first then without_first_border c else c).lines in
      let first = merged_first m c in
      let last = merged_last m c in
      let left = (met m c).lines in
      sym (ap items_in (sym (merged_and_left m c)) ∙ flat_map-append said (first ++ left) last ∙ ap (λ is. items_in (first ++ left) ++ is) (unwritten m.last (drop (length under - 1) under))
      ∙ append-nil (items_in (first ++ left)) ∙ flat_map-append said first left ∙ ap (λ is. is ++ items_in left) (unwritten m.first c.lines))

module _ {T : Type 0} (columns : ℕ → Option ℕ) (a : T) where
  abbrev seen : List (Item T) → List (Item T)
  seen is = to_show columns is

  -- ---- a line of the row

  text_among : (separator : Item T) (t : List (Item T)) (ts : List (List (Item T))) → StandsAmong t ts → StandWithin (seen t) (seen (row_text separator ts))
  text_among separator t [] h = absurd (none_among t h)
  text_among separator t (u ∷ []) h = elim (among_cons t u [] h) [
    | inl same ↦ subst (λ v. StandWithin (seen t) (seen v)) same (itself_within columns t)
    | inr there ↦ absurd (none_among t there)
  ]
  text_among separator t (u ∷ v ∷ ts) h =
      let rest = row_text separator (v ∷ ts) in
      elim (among_cons t u (v ∷ ts) h) [
        | inl same ↦ subst (λ w. StandWithin (seen t) (seen (w ++ separator ∷ rest))) same (middle_within columns [] t (separator ∷ rest))
        | inr there ↦ after_within columns u t (separator ∷ rest) (after_within columns (separator ∷ []) t rest (text_among separator t (v ∷ ts) there))
      ]

  -- ---- the lines of a cell

  line_within : (l : RenderLine T) → StandWithin (seen (items_in (l ∷ []))) (seen (items_under a l))
  line_within (Text es) = subst (λ is. StandWithin (seen is) (seen (items_of es))) (sym (append-nil (items_of es))) (itself_within columns (items_of es))
  line_within (Rule b) = subst (λ is. StandWithin (seen is) (seen (shown a b))) (sym (append-nil (text_before b))) (border_shown columns a b)

  one_within : (shows : List (RenderLine T) → List (Item T)) →
      ((l : RenderLine T) (ls : List (RenderLine T)) → shows (l ∷ ls) ≡ items_under a l) → (ls : List (RenderLine T)) →
      StandWithin (seen (items_in (take 1 ls))) (seen (shows ls))
  one_within shows each [] = tt
  one_within shows each (l ∷ ls) = subst (λ is. StandWithin (seen (items_in (l ∷ []))) (seen is)) (sym (each l ls)) (line_within l)

  lines_within : (ls : List (RenderLine T)) (shown : ℕ → List (Item T)) → ((i : ℕ) → StandWithin (seen (items_in (take 1 (drop i ls)))) (seen (shown i))) → (n : ℕ) →
      StandWithin (seen (items_in (take n ls))) (seen (joined (map shown (numbers_below n))))
  lines_within ls shown each zero = tt
  lines_within ls shown each (suc n) = search (rules, map-append, joined-append, append-nil, one_more, flat_map-append, two_within, lines_within ls shown each n)

  -- ---- the border below the row

  -- the text in front of it, if there is one
  abbrev below : Option (Border T) → List (Item T)
  below None = []
  below (Some b) = text_before b

  pub put_written : (place : ℕ) (b : Border T) (es : List (Element T)) → text_before (with_elements columns place b es) ≡ text_before b ++ items_of es
  put_written place b [] = sym (append-nil (text_before b))
  put_written place b (e ∷ es) = grind (arith, flat_map-append, append-nil, append_assoc, put_written place (with_element columns place b e) es)

  -- what is in the border below of a cell that spans rows
  abbrev in_gap : Bool → Cell T → List (Item T)
  in_gap draws d = items_in (if has_gap draws d then take 1 d.lines else [])

  -- ---- a cell in a row

  -- What is left of a cell of so many rows: nothing, or it overhangs, with a span less by one.
  abbrev IsLeft : ℕ → List (RenderLine T) → List (Cell T) → Type 0
  IsLeft span rest hanging = (rest ≡ []) ⊎ ((d : Cell T) × StandsAmong d hanging × (d.lines ≡ rest) × (1 ≤ d.span) × (d.span + 1 ≡ span))

  later_left : (draws : Bool) (d : Cell T) (cs : List (Cell T)) → StandsAmong d cs → IsLeft d.span (flat_map (λ k. k.lines) (overhang_of draws d)) (overhang draws cs)
  later_left draws d cs (front, back, is) = go (nat_lt 1 d.span) refl
    where
      next : Cell T
      next = record d { span = d.span - 1; lines = drop (if draws then 1 else 0) d.lines }

      go : (s : Bool) → nat_lt 1 d.span ≡ s → IsLeft d.span (flat_map (λ (k : Cell T). k.lines) (if s then next ∷ [] else [])) (overhang draws cs)
      go false e = inl refl
      go true e =
          let more : 1 < d.span = ltb-true 1 d.span e in
          let before = overhang draws front in
          let after = overhang draws back in
          let hangs = ap (overhang draws) is ∙ flat_map-append (overhang_of draws) front (d ∷ back) ∙ ap (λ s. before ++ ((if s then next ∷ [] else []) ++ after)) e in
          inr (next, (before, after, hangs), sym (append-nil next.lines), omega (arith, more), omega (arith, more))

  module _ (same : T → T → Bool) (tells : TellsApart same) where
    -- a cell's line in the border says what the line says
    line_in_gap : (width : ℕ) (ls : List (RenderLine T)) → StandWithin (seen (items_in (take 1 ls))) (seen (items_of (gap_of same a width (first_line ls))))
    line_in_gap width [] = tt
    line_in_gap width (Text line ∷ ls) = line_within (Text line)
    line_in_gap width (Rule b ∷ ls) =
        subst (λ is. StandWithin (seen (items_in (Rule b ∷ []))) (seen is)) (sym (longest_items same tells (shown b.tag b)))
        (subst (λ is. StandWithin (seen is) (seen (shown b.tag b))) (sym (append-nil (text_before b))) (border_shown columns b.tag b))

    gap_within : (draws : Bool) (d : Cell T) → StandWithin (seen (in_gap draws d)) (seen (items_of (gap_in same draws a d)))
    gap_within draws d = go (has_gap draws d)
      where
        go : (gap : Bool) → StandWithin (seen (items_in (if gap then take 1 d.lines else []))) (seen (items_of (if gap then gap_of same a d.width (first_line d.lines) else [])))
        go true = line_in_gap d.width d.lines
        go false = tt

    gaps_within : (draws : Bool) (ds : List (Cell T)) (b : Border T) → (more : List (Item T)) × (text_before (fold (with_gap same columns draws a) b ds) ≡ text_before b ++ more)
        × ((d : Cell T) → StandsAmong d ds → StandWithin (seen (in_gap draws d)) (seen more))
    gaps_within draws [] b = ([], sym (append-nil (text_before b)), λ d among. absurd (none_among d among))
    gaps_within draws (e ∷ ds) b =
        let one : List (Item T) = items_of (gap_in same draws a e) in
        let (more, are, each) = gaps_within draws ds (with_gap same columns draws a b e) in (
          one ++ more,
          are ∙ ap (λ js. js ++ more) (put_written e.place b (gap_in same draws a e)) ∙ append_assoc (text_before b) one more,
          λ d among. elim (among_cons d e ds among) [
            | inl is ↦ subst (λ c. StandWithin (seen (in_gap draws c)) (seen (one ++ more))) (sym is) (before_within columns (in_gap draws e) one more (gap_within draws e))
            | inr there ↦ after_within columns one (in_gap draws d) more (each d there)
          ],
        )

    below_within : (draws : Bool) (d : Cell T) (cs : List (Cell T)) (b : Border T) → StandsAmong d cs →
        StandWithin (seen (in_gap draws d)) (seen (below (if draws then Some (fold (with_gap same columns draws a) b cs) else None)))
    below_within false d cs b among = tt
    below_within true d cs b among =
        let (more, is, each) = gaps_within true cs b in
        subst (λ js. StandWithin (seen (in_gap true d)) (seen js)) (sym is) (after_within columns (text_before b) (in_gap true d) more (each d among))

    abbrev row_with : RowStyle → Option (Border T) → List (Cell T) → SeenRow T
    row_with style top cells = row_under same columns style a top cells

    -- its lines and the text in front of the border below it have what a cell shows, but for what is left
    cell_shown : (style : RowStyle) (top : Option (Border T)) (cells : List (Cell T)) (c : Cell T) → StandsAmong c cells →
        (rest : List (RenderLine T)) × IsLeft c.span rest (row_with style top cells).overhang
        × StandWithin (seen (items_in c.lines)) (seen ((joined (row_with style top cells).lines ++ below (row_with style top cells).next) ++ items_in rest))
    cell_shown style top cells c among =
        let row : SeenRow T = row_with style top cells in
        let columns_in = shown_in style top cells in
        let height = row_height columns_in in
        let draws = style.draws_borders in
        let k = column_of style.collapses top c in
        let stands_in : StandsAmong k columns_in =
        subst (StandsAmong k) (sym (columns_are style.collapses top cells))
        (among_map (column_of style.collapses top) c cells among) in
        let high : cell_height k.cell ≤ height = each_among _ k columns_in stands_in (row_is_high_enough columns_in) in
        let d : Cell T = cell_in (dropped height k) in
        let stands = among_map cell_in (dropped height k) (map (dropped height) columns_in) (among_map (dropped height) k columns_in stands_in) in
        let first = items_in (take height k.cell.lines) in
        let gap = in_gap draws d in
        let rest = later_of draws height k.cell in
        let here = joined row.lines ++ below row.next in
        let separator : Item T = glyph (separator_in style) a in
        let line_has = λ (i : ℕ). within_on (seen (items_in (take 1 (drop i k.cell.lines)))) (seen (cell_text a i k)) (seen (line_text separator a columns_in i))
        (one_within (cell_shows a k) (λ l more. refl) (drop i k.cell.lines))
        (text_among separator (cell_text a i k) (map (cell_text a i) columns_in) (among_map (cell_text a i) k columns_in stands_in)) in
        let in_lines : StandWithin (seen first) (seen (joined row.lines)) = lines_within k.cell.lines (line_text separator a columns_in) line_has height in
        let in_border : StandWithin (seen gap) (seen (below row.next)) =
        below_within draws d (left_in style top cells) (next_begun style top cells (plain_border (row_width cells) a)) stands in
        let all : (first ++ gap) ++ items_in rest ≡ items_in c.lines =
        ap (λ is. is ++ items_in rest)
        (sym (flat_map-append said (take height k.cell.lines) (if has_gap draws d then take 1 d.lines else [])))
        ∙ sym (flat_map-append said (part_of draws height k.cell) rest)
        ∙ ap items_in (part_and_later draws height k.cell high) ∙ ap (λ (x : Cell T). items_in x.lines) (cell_is style.collapses top height c) ∙ met_written (meeting style.collapses top height) c in (
          rest,
          subst (λ n. IsLeft n rest row.overhang) (span_stays style.collapses top height c) (later_left draws d (left_in style top cells) stands),
          subst (λ js. StandWithin (seen js) (seen (here ++ items_in rest))) all
              (two_within columns (first ++ gap) (items_in rest) here (items_in rest)
              (two_within columns first gap (joined row.lines) (below row.next) in_lines in_border) (itself_within columns (items_in rest))),
        )

    -- ---- what comes into the cell

    filled_within : (align : CellAlign) (width : ℕ) (lines : List (Line T)) → StandWithin (seen (written lines)) (seen (items_in (map (filled same columns align width a) lines)))
    filled_within align width [] = tt
    filled_within align width (text is ∷ ls) =
        let missing = width - items_width columns is in
        let front : List (Item T) = text_items (spaces (columns_in_front align missing)) a in
        let back : List (Item T) = text_items (spaces (missing - columns_in_front align missing)) a in
        let es : List (Element T) = longest same (aligned_items align is missing a) in
        let are : front ++ (is ++ back) ≡ items_of es = sym (append_assoc front is back) ∙ sym (longest_items same tells (aligned_items align is missing a)) in
        two_within columns is (written ls) (items_of es) (items_in (map (filled same columns align width a) ls))
        (subst (λ js. StandWithin (seen is) (seen js)) are (middle_within columns front is back))
        (filled_within align width ls)
    filled_within align width (border b ∷ ls) =
        two_within columns (text_before b) (written ls) (text_before b) (items_in (map (filled same columns align width a) ls)) (itself_within columns (text_before b)) (filled_within align width ls)

    -- a cell that comes is among the row's own
    comes_among : (given : GivenCell T) (at : ℕ) (cells : List (GivenCell T)) → StandsAmong given cells →
        (c : Cell T) × StandsAmong c (cells_from same columns a at cells) × (c.span ≡ given.span) × (c.lines ≡ map (filled same columns given.align given.width a) given.lines)
    comes_among given at [] h = absurd (none_among given h)
    comes_among given at (g ∷ gs) h =
        let here : Cell T = cell_from same columns a at g in
        let rest : List (Cell T) = cells_from same columns a (at + g.width + 1) gs in
        elim (among_cons given g gs h) [
          | inl is ↦ (
            here,
            ([], rest, refl),
            ap (λ (k : GivenCell T). k.span) (sym is),
            ap (λ (k : GivenCell T). map (filled same columns k.align k.width a) k.lines) (sym is),
          )
          | inr there ↦
              let (c, among, span, lines) = comes_among given (at + g.width + 1) gs there in
              (c, among_front c here rest among, span, lines)
        ]

module _ {D A : Type 0} (columns : ℕ → Option ℕ) where
  -- the border below a row says what is in front of it
  border_within : (r : Renderer D A (List A)) (o : Option (Border (List A))) → StandWithin (to_show columns (below columns r.annotations o)) (to_show columns (written (border_lines_of columns r o)))
  border_within r None = tt
  border_within r (Some b) =
      let is = shown b.tag b in
      cond_both r.options.pad_block_width (text (is ++ line_padding columns r is)) (border b) (λ l. StandWithin (to_show columns (text_before b)) (to_show columns (written (l ∷ []))))
      (λ e. before_within columns (text_before b) (is ++ line_padding columns r is) [] (before_within columns (text_before b) is (line_padding columns r is) (border_shown columns b.tag b)))
      (λ e. before_within columns (text_before b) (text_before b) [] (itself_within columns (text_before b)))

  -- a row writes its lines after what there was, and then what is in front of the border below
  pub row_adds : (p : PutRow D A columns) → (more : List (Item (List A))) × (written (after_put columns p).lines ≡ written p.before.lines ++ more)
      × StandWithin (to_show columns (joined (row_shown p).lines ++ below columns p.before.annotations (row_shown p).next)) (to_show columns more)
  row_adds p =
      let m : Renderer D A (List A) = p.before in
      let row : SeenRow (List A) = row_shown p in
      let top : List (Line (List A)) = before_border m.lines ++ border_lines row.above in
      let laid = lines_laid columns m row.lines in
      let last = border_lines_of columns m row.next in
      let texts = laid_within columns m row.lines in (
        written laid ++ written last,
        ap written (row_lines columns m row)
            ∙ written-append top (laid ++ last)
            ∙ ap (λ is. is ++ written (laid ++ last))
            (stays_written m.lines top (top_stays columns p))
            ∙ ap (λ is. written m.lines ++ is) (written-append laid last),
        two_within columns (joined row.lines) (below columns m.annotations row.next) (written laid) (written last) texts (border_within m row.next),
      )

  -- Items stand in what is written, or what is left of them is in a cell that overhangs for some rows yet.
  abbrev pub Follows : List (Item (List A)) → ℕ → Renderer D A (List A) → Type 0
  Follows us rows r =
      StandWithin us (to_show columns (written r.lines)) ⊎
      ((c : Cell (List A)) × StandsAmong c r.hanging × (1 ≤ c.span) × (c.span ≤ rows) × StandWithin us
      (to_show columns (written r.lines ++ items_in c.lines)))

  -- through a row
  pub row_follows : (p : PutRow D A columns) (us : List (Item (List A))) (rows : ℕ) (c : Cell (List A)) → StandsAmong c p.seated → c.span ≤ suc rows →
      StandWithin us (to_show columns (written p.before.lines ++ items_in c.lines)) → Follows us rows (after_put columns p)
  row_follows p us rows c among few within =
      let m : Renderer D A (List A) = p.before in
      let s : Renderer D A (List A) = after_put columns p in
      let row : SeenRow (List A) = row_shown p in
      let (more, is, shows) = row_adds p in
      let (rest, left, inside) = cell_shown columns m.annotations p.same p.tells (style_in m p.collapses) (last_border m.lines) p.seated c among in
      let there = below columns m.annotations row.next in
      let is_rest = items_in rest in
      let own =
      within_on (to_show columns (items_in c.lines)) (to_show columns ((joined row.lines ++ there) ++ is_rest)) (to_show columns (more ++ is_rest)) inside
      (two_within columns (joined row.lines ++ there) is_rest more is_rest shows (itself_within columns is_rest)) in
      let both = two_within columns (written m.lines) (items_in c.lines) (written m.lines) (more ++ is_rest) (itself_within columns (written m.lines)) own in
      let all : StandWithin us (to_show columns (written s.lines ++ is_rest)) =
      subst (λ js. StandWithin us (to_show columns js)) (sym (ap (λ js. js ++ is_rest) is ∙ append_assoc (written m.lines) more is_rest))
      (within_on us (to_show columns (written m.lines ++ items_in c.lines)) (to_show columns (written m.lines ++ (more ++ is_rest))) within both) in
      elim left [
        | inl none ↦ inl (subst (λ js. StandWithin us (to_show columns js)) (ap (λ ls. written s.lines ++ items_in ls) none ∙ append-nil (written s.lines)) all)
        | inr (d, hangs, are, some, spans) ↦
            let hanging : s.hanging ≡ row.overhang = ap (λ (q : Renderer D A (List A)). q.hanging) (row_beside columns m row) in
            inr (d, subst (StandsAmong d) (sym hanging) hangs, some, omega (arith, spans, few), subst (λ ls. StandWithin us (to_show columns (written s.lines ++ items_in ls))) (sym are) all)
      ]

  -- and from where a row takes a cell
  pub cell_follows : (p : PutRow D A columns) (rows : ℕ) (cell : GivenCell (List A)) → StandsAmong cell p.cells → cell.span ≤ suc rows →
      Follows (to_show columns (written cell.lines)) rows (after_put columns p)
  cell_follows p rows cell among few =
      let m : Renderer D A (List A) = p.before in
      let s : Renderer D A (List A) = after_put columns p in
      let (c, own, span, lines) = comes_among columns m.annotations p.same p.tells cell 0 p.cells among in
      let inside = to_show columns (written cell.lines) in
      let shows : StandWithin inside (to_show columns (items_in c.lines)) =
      subst (λ ls. StandWithin inside (to_show columns (items_in ls))) (sym lines) (filled_within columns m.annotations p.same p.tells cell.align cell.width cell.lines) in
      (elim c.lines as (λ ls. c.lines ≡ ls → Follows inside rows s) [
        | [] ↦ λ e. inl (within_on inside [] (to_show columns (written s.lines)) (subst (λ ls. StandWithin inside (to_show columns (items_in ls))) e shows) tt)
        | l ∷ ls ↦ λ e.
            let seated = among_own 0 c m.hanging (own_cells p.same columns p.cells m) p.seated (ap (λ ks. is_none (first_line ks)) e) own p.are_seated in
            row_follows p inside rows c seated (omega (arith, span, few))
            (within_on inside (to_show columns (items_in c.lines))
            (to_show columns (written m.lines ++ items_in c.lines)) shows
            (after_within columns (written m.lines) (items_in c.lines) (items_in c.lines)
            (itself_within columns (items_in c.lines))))
      ]) refl
