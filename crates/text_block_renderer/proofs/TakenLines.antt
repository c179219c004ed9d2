-- Visible characters and markers of lines that renderers take from one another.
use Rattle.text_block_renderer.proofs.Common.{◌≡◌, ℕ, zero, suc, ◌+◌, ◌≤◌, ◌⊎◌, inl, inr, Option, List, [], ◌∷◌, ◌++◌, map, flat_map, fold, length, refl, ap, sym, ◌∙◌, subst, arith, append_assoc}
use Rattle.text_block_renderer.proofs.Common.{append-nil, rules, filter-append, fold-append, length-append, Entry, Item, is_visible_or_marker, text_items, slash, Decoration, StandsAmong, Overhanging}
use Rattle.text_block_renderer.proofs.Common.{Line, text, border, after_flush, footnote_lines, Open, Renderer, open_run, IsSound, as_text, prefixed, with_divider, with_cell, with_cell_below}
use Rattle.text_block_renderer.proofs.Common.{with_cells, handed_out, Call, append_subrender, append_vert_row, Does, done, if_live, Act, call, row, fmt_links, finalise, rows_of, after_act, lines_laid}
use Rattle.text_block_renderer.proofs.Common.{StandWithin, written, to_show, AreWrittenIn, IsWrittenSoFar, CallTakes, Takes, NothingOverhangs, AreTakenIn}
use Rattle.text_block_renderer.proofs.Common.{PutRow, own_cells}
use Rattle.tbr_renderer.proofs.OutcomeParts.{one_done, done_first}
use Rattle.tbr_model.specs.Layout.{joined}
use Rattle.tbr_border.specs.Cell.{Cell}
use Rattle.tbr_rows.proofs.Among.{each_among}
use Rattle.tbr_rows.proofs.CellsSeated.{among_seated}
use Rattle.tbr_renderer.proofs.CallParts.{handed_then}
use Rattle.text_block_renderer.proofs.ActSteps.{row_to_put, ActStep, after_acts, act_step}
use Rattle.text_block_renderer.proofs.ActParts.{alone, rows_one}
use Rattle.tbr_renderer.proofs.RowsOfCells.{row_flushes}
use Rattle.tbr_renderer.proofs.FlushedBlocks.{flushed_none, lines_beside, flush_beside}
use Rattle.text_block_renderer.proofs.Moves.{any, flush, path_hanging}
use Rattle.text_block_renderer.proofs.CallMoves.{calls_move}
use Rattle.text_block_renderer.proofs.VerticalRows.{cells_after}
use Rattle.text_block_renderer.proofs.BroughtEntries.{last_shown}
use Rattle.text_block_renderer.proofs.WrittenEntries.{flush_written}
use Rattle.text_block_renderer.proofs.AddedLines.{Grows, lines_grow, moves_grow, steps_grow, laid_lines}
use Rattle.text_block_renderer.proofs.CellsInRows.{items_in, Follows, row_adds, row_follows, cell_follows}
use Rattle.text_block_renderer.proofs.Within.{within_itself, within_more, within_on, two_within, itself_within, after_within, before_within}
use Rattle.text_block_renderer.proofs.Written.{written-append, border_shown, laid_within}
use Rattle.text_block_renderer.proofs.LaidTexts.{appended_after}

-- ---- lines as text

abbrev seen : {T : Type 0} → (ℕ → Option ℕ) → List (Line T) → List (Item T)
seen columns lines = to_show columns (written lines)

module _ {T : Type 0} (columns : ℕ → Option ℕ) where
  -- A line as text says what is written there, after other items and before other lines.
  first_within : (tag : T) (line : Line T) (lines : List (Line T)) (front rest : List (Item T)) →
      StandWithin (seen columns lines) (to_show columns rest) →
      StandWithin (seen columns (line ∷ lines)) (to_show columns ((front ++ as_text tag line) ++ rest))
  first_within tag (text is) lines front rest h = two_within columns is (written lines) (front ++ is) rest (after_within columns front is is (itself_within columns is)) h
  first_within tag (border b) lines front rest h = search (rules, two_within, after_within, border_shown)

  texts_within : (tag : T) (lines : List (Line T)) → StandWithin (seen columns lines) (to_show columns (joined (map (as_text tag) lines)))
  texts_within tag [] = tt
  texts_within tag (line ∷ lines) = first_within tag line lines [] (joined (map (as_text tag) lines)) (texts_within tag lines)

  prefixed_within : (tag : T) (prefixes : List (List ℕ)) (lines : List (Line T)) → length lines ≤ length prefixes →
      StandWithin (seen columns lines) (to_show columns (joined (prefixed tag prefixes lines)))
  prefixed_within tag prefixes [] h = tt
  prefixed_within tag [] (line ∷ lines) h = absurd (omega (arith, h))
  prefixed_within tag (p ∷ ps) (line ∷ lines) h =
      let fewer : length lines ≤ length ps = omega (arith, h) in
      first_within tag line lines (text_items p tag) (joined (prefixed tag ps lines)) (prefixed_within tag ps lines fewer)

-- ---- calls

module _ {D A : Type 0} (columns : ℕ → Option ℕ) where
  -- more that is written loses none
  abbrev MoreText : Renderer D A (List A) → Renderer D A (List A) → Type 0
  MoreText r s = (more : List (Item (List A))) × (written s.lines ≡ written r.lines ++ more)

  more_within : (us : List (Item (List A))) (r s : Renderer D A (List A)) → MoreText r s → StandWithin us (seen columns r.lines) → StandWithin us (seen columns s.lines)
  more_within us r s (more, is) h =
      subst (StandWithin us)
      (sym (ap (to_show columns) is ∙ filter-append (is_visible_or_marker columns) (written r.lines) more))
      (within_more us (seen columns r.lines) (to_show columns more) h)

  still_more : (us : List (Item (List A))) (r s : Renderer D A (List A)) (is : List (Item (List A))) → MoreText r s →
      StandWithin us (to_show columns (written r.lines ++ is)) →
      StandWithin us (to_show columns (written s.lines ++ is))
  still_more us r s is (more, same) h =
      let old = written r.lines in
      let here : StandWithin (to_show columns old) (to_show columns (written s.lines)) =
      subst (λ js. StandWithin (to_show columns old) (to_show columns js)) (sym same)
      (before_within columns old old more (itself_within columns old)) in
      within_on us (to_show columns (old ++ is)) (to_show columns (written s.lines ++ is)) h (two_within columns old is (written s.lines) is here (itself_within columns is))

  more_text : (r s : Renderer D A (List A)) → Grows r s → MoreText r s
  more_text r s grows = (written grows.0, ap written grows.1 ∙ written-append r.lines grows.0)

  -- nor do more lines
  still_within : (us : List (Item (List A))) (r s : Renderer D A (List A)) → Grows r s → StandWithin us (seen columns r.lines) → StandWithin us (seen columns s.lines)
  still_within us r s grows h = more_within us r s (more_text r s grows) h

  divider_keeps : (us : List (Item (List A))) (cell : Cell) (r : Renderer D A (List A)) → StandWithin us (seen columns r.lines) → StandWithin us (seen columns (with_divider columns cell r).lines)
  divider_keeps us cell r h = grind (arith, still_within)

  -- laid texts are written after what there was
  laid_after : (us : List (Item (List A))) (ts : List (List (Item (List A)))) (r s : Renderer D A (List A)) →
      s.lines ≡ r.lines ++ lines_laid columns r ts → StandWithin us (to_show columns (joined ts)) →
      StandWithin us (seen columns s.lines)
  laid_after us ts r s is h =
      let laid = lines_laid columns r ts in
      subst (λ js. StandWithin us (to_show columns js)) (sym (ap written is ∙ written-append r.lines laid))
      (within_on us (seen columns laid) (to_show columns (written r.lines ++ written laid))
      (within_on us (to_show columns (joined ts)) (seen columns laid) h (laid_within columns r ts))
      (after_within columns (written r.lines) (written laid) (written laid) (itself_within columns (written laid))))

  cells_keep : (us : List (Item (List A))) (cells : List (List (Line (List A)))) (r : Renderer D A (List A)) →
      StandWithin us (seen columns r.lines) →
      StandWithin us (seen columns (fold (with_cell_below columns) r cells).lines)
  cells_keep us [] r h = h
  cells_keep us (lines ∷ cells) r h =
      let q = with_divider columns slash r in
      cells_keep us cells (with_cell columns q lines) (still_within us q (with_cell columns q lines) (lines_grow columns (map (as_text q.annotations) lines) q) (divider_keeps us slash r h))

  cell_within : (lines : List (Line (List A))) (r : Renderer D A (List A)) → StandWithin (seen columns lines) (seen columns (with_cell columns r lines).lines)
  cell_within lines r =
      let texts = map (as_text r.annotations) lines in
      laid_after (seen columns lines) texts r (with_cell columns r lines) (laid_lines columns texts r) (texts_within columns r.annotations lines)

  row_within : (front back : List (List (Line (List A)))) (lines : List (Line (List A))) (r : Renderer D A (List A)) →
      StandWithin (seen columns lines) (seen columns (with_cells columns r (front ++ lines ∷ back)).lines)
  row_within [] back lines r = cells_keep (seen columns lines) back (with_cell columns r lines) (cell_within lines r)
  row_within (first ∷ front) back lines r =
      let q : Renderer D A (List A) = with_cell columns r first in
      let p : Renderer D A (List A) = fold (with_cell_below columns) q front in
      subst (λ (s : Renderer D A (List A)). StandWithin (seen columns lines) (seen columns s.lines)) (sym (fold-append (with_cell_below columns) q front (lines ∷ back)))
      (cells_keep (seen columns lines) back (with_cell_below columns p lines) (cell_within lines (with_divider columns slash p)))

  module _ (decoration : Decoration D A) where
    taken_within : (c : Call (List A)) (r s : Renderer D A (List A)) (lines : List (Line (List A))) →
        CallTakes lines c → Does columns decoration c r s → StandWithin (seen columns lines) (seen columns s.lines)
    taken_within (append_subrender prefixes taken) r s lines t h =
        let tag = r.annotations in
        let all : StandWithin (seen columns taken) (to_show columns (joined (prefixed tag prefixes taken))) =
        prefixed_within columns tag prefixes taken
        (subst (λ (ls : List (Line (List A))). length ls ≤ length prefixes) (sym t.0) t.1) in
        let (m, flushed, is) = appended_after columns decoration prefixes taken r s h in
        subst (λ (ls : List (Line (List A))). StandWithin (seen columns ls) (seen columns s.lines)) t.0 (laid_after (seen columns taken) (prefixed tag prefixes taken) m s is all)
    taken_within (append_vert_row cells) r s lines t h = grind (arith, cells_after, divider_keeps, row_within)
    taken_within other r s lines t h = elim t [ ]

    flush_adds : (r m : Renderer D A (List A)) → if_live r.failure (after_flush columns r) ≡ done m → MoreText r m
    flush_adds r m flushed = more_text r m (moves_grow columns (flush r ∷ []) r m (m, (refl, row_flushes columns r m flushed), refl))

    act_adds : (act : Act A) (r s : Renderer D A (List A)) → ActStep columns decoration act r s → MoreText r s
    act_adds (call c) r s h = more_text r s (steps_grow columns decoration (c ∷ []) r s (alone columns decoration c r s h).0)
    act_adds (fmt_links links) r s h = more_text r s (subst (λ (q : Renderer D A (List A)). Grows r q) (sym h) (lines_grow columns (flat_map (footnote_lines columns r) links) r))
    act_adds (finalise targets) r s h = more_text r s ([], ap (λ (q : Renderer D A (List A)). q.lines) h ∙ sym (append-nil r.lines))
    act_adds (row collapses cells) r s (m, flushed, seated, are, is, brings) =
        let first = flush_adds r m flushed in
        let (more, writes, shows) = row_adds columns (row_to_put columns decoration collapses cells m seated are) in
        (first.0 ++ more, ap (λ (q : Renderer D A (List A)). written q.lines) is ∙ writes ∙ ap (λ js. js ++ more) first.1 ∙ append_assoc (written r.lines) first.0 more)

    -- what is left goes on overhanging
    follows_on : (us : List (Item (List A))) (n rows : ℕ) (r s : Renderer D A (List A)) → n ≤ rows → MoreText r s → s.hanging ≡ r.hanging → Follows columns us n r → Follows columns us rows s
    follows_on us n rows r s fits more same h = grind (arith, more_within, still_more, items_in)

    act_follows : (us : List (Item (List A))) (act : Act A) (n rows : ℕ) (r s : Renderer D A (List A)) →
        n ≤ length (rows_of (act ∷ [])) + rows → ActStep columns decoration act r s → Follows columns us n r →
        Follows columns us rows s
    act_follows us (call c) n rows r s fits h k =
        let path = calls_move columns any decoration (c ∷ []) r s _ tt (alone columns decoration c r s h) in
        follows_on us n rows r s (omega (arith, fits)) (act_adds (call c) r s h) (path_hanging columns any r s _ _ path) k
    act_follows us (fmt_links links) n rows r s fits h k =
        follows_on us n rows r s (omega (arith, fits)) (act_adds (fmt_links links) r s h)
        (ap (λ (q : Renderer D A (List A)). q.hanging) h
        ∙ ap (λ (q : Renderer D A (List A)). q.hanging)
        (lines_beside columns (flat_map (footnote_lines columns r) links) r)) k
    act_follows us (finalise targets) n rows r s fits h k = follows_on us n rows r s (omega (arith, fits)) (act_adds (finalise targets) r s h) (ap (λ (q : Renderer D A (List A)). q.hanging) h) k
    act_follows us (row collapses cells) n rows r s fits h (inl k) = inl (more_within us r s (act_adds (row collapses cells) r s h) k)
    act_follows us (row collapses cells) n rows r s fits (m, flushed, seated, are, is, brings) (inr (c, hangs, some, few, k)) =
        let same : m.hanging ≡ r.hanging = ap (λ (q : Renderer D A (List A)). q.hanging) (flush_beside columns r m r.block refl (row_flushes columns r m flushed)) in
        let p : PutRow D A columns = row_to_put columns decoration collapses cells m seated are in
        let among = among_seated 0 c m.hanging (own_cells p.same columns cells m) seated (subst (StandsAmong c) (sym same) hangs) are in
        subst (Follows columns us rows) (sym is) (row_follows columns p us rows c among (omega (arith, few, fits)) (still_more us r m (items_in c.lines) (flush_adds r m flushed) k))

    -- through calls and rows
    acts_follow : (us : List (Item (List A))) (acts : List (Act A)) (n rows : ℕ) (r s : Renderer D A (List A)) →
        n ≤ length (rows_of acts) + rows → after_acts columns decoration acts r ≡ done s → Follows columns us n r →
        Follows columns us rows s
    acts_follow us [] n rows r s fits h k =
        subst (λ (q : Renderer D A (List A)). Follows columns us rows q) (sym (one_done r s h))
        (follows_on us n rows r r (omega (arith, fits)) ([], sym (append-nil (written r.lines))) refl k)
    acts_follow us (act ∷ acts) n rows r s fits h k =
        let (m, does, others) = done_first (after_act columns decoration act r) (after_acts columns decoration acts) s h in
        acts_follow us acts (length (rows_of acts) + rows) rows m s (omega arith) others
        (act_follows us act n (length (rows_of acts) + rows) r m
        (omega
        (arith, fits, ap length (rows_one columns decoration act acts), length-append (rows_of (act ∷ [])) (rows_of acts)))
        (act_step columns decoration act r m does) k)

    act_within : (act : Act A) (span rows : ℕ) (r s : Renderer D A (List A)) (lines : List (Line (List A))) →
        Takes span lines act → span ≤ suc rows → ActStep columns decoration act r s →
        Follows columns (seen columns lines) rows s
    act_within (call c) span rows r s lines t few h = inl (taken_within c r s lines t h)
    act_within (row collapses cells) span rows r s lines (cell, among, spans, gives) few (m, flushed, seated, are, is, brings) =
        subst (λ (ls : List (Line (List A))). Follows columns (seen columns ls) rows s) gives
        (subst (Follows columns (seen columns cell.lines) rows) (sym is)
        (cell_follows columns (row_to_put columns decoration collapses cells m seated are) rows cell among (omega (arith, spans, few))))
    act_within other span rows r s lines t few h = elim t [ ]

    -- where the rows of its span come, or nothing overhangs in the end, all of it stands
    followed : (us : List (Item (List A))) (span : ℕ) (after : List (Act A)) (m s : Renderer D A (List A)) →
        after_acts columns decoration after m ≡ done s → ((rows : ℕ) → span ≤ suc rows → Follows columns us rows m) →
        (span ≤ 1 + length (rows_of after)) ⊎ NothingOverhangs s →
        StandWithin us (seen columns s.lines)
    followed us span after m s h from (inl few) =
        elim (acts_follow us after (length (rows_of after)) 0 m s (omega arith) h
        (from (length (rows_of after)) (omega (arith, few))))
        [ inl k ↦ k | inr k ↦ absurd (let (c, hangs, some, none, within) = k in omega (arith, some, none)) ]
    followed us span after m s h from (inr none) =
        elim (acts_follow us after span span m s (omega arith) h (from span (omega arith))) [
          | inl k ↦ k
          | inr k ↦ let (c, hangs, some, few, within) = k in
              subst (λ js. StandWithin us (to_show columns js))
              (ap (λ ls. written s.lines ++ items_in ls)
              (each_among (λ (d : Overhanging (List A)). d.lines ≡ []) c s.hanging hangs none)
              ∙ append-nil (written s.lines)) within
        ]

    steps_within : (before : List (Act A)) (act : Act A) (after : List (Act A)) (r s : Renderer D A (List A)) (span : ℕ)
        (lines : List (Line (List A))) → Takes span lines act →
        (span ≤ 1 + length (rows_of after)) ⊎ NothingOverhangs s →
        after_acts columns decoration (before ++ act ∷ after) r ≡ done s → StandWithin (seen columns lines) (seen columns s.lines)
    steps_within [] act after r s span lines t come h =
        let (m, does, others) = done_first (after_act columns decoration act r) (after_acts columns decoration after) s h in
        followed (seen columns lines) span after m s others (λ rows few. act_within act span rows r m lines t few (act_step columns decoration act r m does)) come
    steps_within (d ∷ before) act after r s span lines t come h =
        let (m, does, others) = done_first (after_act columns decoration d r) (after_acts columns decoration (before ++ act ∷ after)) s h in
        steps_within before act after m s span lines t come others

    handed_within : (us : List (Item (List A))) (r : Renderer D A (List A)) (lines : List (Line (List A))) →
        handed_out columns r ≡ done lines → StandWithin us (seen columns r.lines) → StandWithin us (seen columns lines)
    handed_within us r lines h k =
        let (s, flushed, is) = handed_then columns r lines h in
        subst (λ (ls : List (Line (List A))). StandWithin us (seen columns ls)) (sym is) (still_within us r s (moves_grow columns (flush r ∷ []) r s (s, (refl, flushed), refl)) k)

    pub all_within : (depth : ℕ) (inside outside : List (Line (List A))) → AreTakenIn columns decoration depth inside outside → StandWithin (seen columns inside) (seen columns outside)
    all_within zero inside outside h = subst (λ (ls : List (Line (List A))). StandWithin (seen columns inside) (seen columns ls)) (sym h) (within_itself (seen columns inside))
    all_within (suc depth) inside outside h =
        let (between, taken, others) = h in
        let here =
        handed_within (seen columns inside) taken.last between taken.gives
        (steps_within taken.before taken.taking taken.after taken.first taken.last taken.span inside taken.takes
        taken.come taken.leads) in
        within_on (seen columns inside) (seen columns between) (seen columns outside) here (all_within depth between outside others)

    pub brought_within : (depth : ℕ) (r : Renderer D A (List A)) (es : List (Entry (List A))) (inside outside : List (Line (List A))) →
        IsSound columns r → IsWrittenSoFar columns r es → handed_out columns r ≡ done inside → AreTakenIn columns decoration depth inside outside → AreWrittenIn columns es outside
    brought_within depth r es inside outside sound so_far gives h =
        let (s, flushed, is) = handed_then columns r inside gives in
        let k = flush_written columns r s es flushed sound so_far in
        let came : k.ended ≡ es = sym (append-nil k.ended) ∙ ap (λ (o : Option (Open (List A))). k.ended ++ open_run o) (sym (flushed_none columns r s flushed)) ∙ k.whole in
        let here = subst (λ (ls : List (Line (List A))). StandWithin k.shown (seen columns ls)) (sym is) k.stand in
        subst (λ (fs : List (Entry (List A))). AreWrittenIn columns fs outside) came (record {
          shown = k.shown;
          missing = s.waiting;
          order = k.order;
          last = last_shown columns k.shown s.waiting k.ended k.order;
          stand = within_on k.shown (seen columns inside) (seen columns outside) here (all_within depth inside outside h);
        })
