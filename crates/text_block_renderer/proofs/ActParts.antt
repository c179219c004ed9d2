-- What calls, rows and footnotes add to the lines, piece by piece.
use Rattle.text_block_renderer.proofs.Common.{◌≡◌, ℕ, Bool, Option, None, List, [], ◌∷◌, ◌++◌, map, flat_map, fold, refl, ap, sym, ◌∙◌, subst, append_assoc, append-nil, arith, rules, AllZip, Each}
use Rattle.text_block_renderer.proofs.Common.{map-append, map-map, flat_map-append, Outcome, Entry, Item, Border, BorderCell, SeenRow, Decoration, Open, Renderer, with_line, open_run, IsSound, listed}
use Rattle.text_block_renderer.proofs.Common.{footnote_lines, Line, GivenCell, border_lines, with_next, with_row, before_border, Call, Does, entries_brought, Brings, laid_entries}
use Rattle.text_block_renderer.proofs.Common.{text_of_lines, done, told_by, after_flush, Added, part_added, row_added, note_added, notes_add, flush_ends, Part, lines_laid, IsPart, lines_of_part, Act}
use Rattle.text_block_renderer.proofs.Common.{call, row, fmt_links, finalise, rows_of, after_act, act_enters, acts_enter, Piece, part, put, noted, cells_in, rows_in, border_lines_of, lines_of_piece}
use Rattle.text_block_renderer.proofs.Common.{entries_of_piece, added_of_piece, act_adds, acts_add, IsPiece, StaysLine, ComesInPieces}
use Rattle.text_block_renderer.proofs.Common.{PutRow, row_shown}
use Rattle.std.proofs.lemmas.List.Folds.{flat_map-map}
use Rattle.tbr_model.specs.Layout.{joined}
use Rattle.tbr_model.proofs.lists.Each.{each_append, each_map}
use Rattle.tbr_rows.specs.declared.LineSet.{LineSet as Cell}
use Rattle.tbr_decor.specs.Change as change
use Rattle.tbr_tagged.proofs.Outcomes.{live_done}
use Rattle.tbr_renderer.proofs.OutcomeParts.{one_done, done_first}
use Rattle.text_block_renderer.specs.LastBorders.{BecomeBy}
use Rattle.tbr_renderer.proofs.FlushedBlocks.{beside, lines_beside, flushed_none}
use Rattle.text_block_renderer.proofs.Moves.{any, flush, sound_alike, Frame, Course, one, path_frame}
use Rattle.text_block_renderer.proofs.CallMoves.{call_moves}
use Rattle.text_block_renderer.proofs.LineParts.{part_of_other, course_parts}
use Rattle.text_block_renderer.proofs.AddedLines.{moves_grow, laid_lines}
use Rattle.text_block_renderer.proofs.LineContents.{text_of_lines-append}
use Rattle.text_block_renderer.proofs.ActSteps.{after_put, row_to_put, ActStep, after_acts, act_step}
use Rattle.tbr_renderer.proofs.RowsOfCells.{row_flushes, under_row, row_beside, row_closed}
use Rattle.text_block_renderer.proofs.LastingLines.{all_stay, stay_on, stay_texts, top_put_back}
use Rattle.tbr_rows.proofs.Among.{each_gives}
use Rattle.tbr_tagged.proofs.SameItems.{all_zip_append}
use Rattle.text_block_renderer.proofs.OverhangingCells.{Chain, chain_append}

module _ {D A : Type 0} (columns : ℕ → Option ℕ) where
  rows_append : (ps qs : List (Piece D A columns)) → rows_in (ps ++ qs) ≡ rows_in ps ++ rows_in qs
  rows_append [] qs = refl
  rows_append (put p ∷ ps) qs = ap (λ rows. p ∷ rows) (rows_append ps qs)
  rows_append (other ∷ ps) qs = rows_append ps qs

  no_rows : (ps : List (Part D A)) → rows_in {columns = columns} (map (λ p. part p) ps) ≡ []
  no_rows [] = refl
  no_rows (p ∷ ps) = no_rows ps

  piece_of_other : (r q : Renderer D A (List A)) → q.width ≡ r.width → q.options ≡ r.options → (p : Piece D A columns) → IsPiece columns q p → IsPiece columns r p
  piece_of_other r q width options p h = grind (arith, part_of_other)

  -- ---- a row

  next_lines : (r q : Renderer D A (List A)) (cells : List (Cell (List A))) (o : Option (Border (List A))) → beside q ≡ record (beside r) { hanging = cells } →
      (with_next columns q o).lines ≡ q.lines ++ border_lines_of columns r o
  next_lines r q cells o e = grind (arith, append-nil)

  pub row_lines : (m : Renderer D A (List A)) (seen : SeenRow (List A)) →
      (with_row columns m seen).lines ≡ (before_border m.lines ++ border_lines seen.above) ++ (lines_laid columns m seen.lines ++ border_lines_of columns m seen.next)
  row_lines m seen = search (rules, next_lines, lines_beside, laid_lines, append_assoc)

  -- lines stay where the border above a row is put in
  pub top_stays : (p : PutRow D A columns) → AllZip StaysLine p.before.lines (under_row p.before (row_shown p)).lines
  top_stays p = top_put_back p.collapses p.seated p.before.lines

  -- ---- what pieces make of lines

  become_on : (ps qs : List (Piece D A columns)) (ls ms ns : List (Line (List A))) → BecomeBy columns ps ls ms → BecomeBy columns qs ms ns → BecomeBy columns (ps ++ qs) ls ns
  become_on [] qs ls ms ns h k = subst (λ ks. BecomeBy columns qs ks ns) h k
  become_on (put p ∷ ps) qs ls ms ns h k = (h.0, become_on ps qs _ ms ns h.1 k)
  become_on (other ∷ ps) qs ls ms ns h k = become_on ps qs _ ms ns h k

  parts_become : (ps : List (Part D A)) (ls : List (Line (List A))) → BecomeBy columns (map part ps) ls (ls ++ flat_map (lines_of_part columns) ps)
  parts_become [] ls = append-nil ls
  parts_become (p ∷ ps) ls =
      let here = lines_of_part columns p in
      subst (BecomeBy columns (map part ps) (ls ++ here)) (append_assoc ls here (flat_map (lines_of_part columns) ps)) (parts_become ps (ls ++ here))

  -- What came in pieces, to a renderer that is the same but for what calls and rows may change.
  pub record Along (xs : List (List (GivenCell (List A)))) (rs : List (Added D A)) (r : Renderer D A (List A)) (es : List (Entry (List A))) (s : Renderer D A (List A)) : Type 0 where
    pub width : s.width ≡ r.width
    pub options : s.options ≡ r.options
    pub came : ComesInPieces columns xs r es s
    pub added : map added_of_piece came.pieces ≡ rs
    pub become : BecomeBy columns came.pieces r.lines s.lines
    pub chain : Chain columns r.options.draw_borders r.hanging (rows_in came.pieces) s.hanging

  along_on : (xs ys : List (List (GivenCell (List A)))) (rs ss : List (Added D A)) (r q s : Renderer D A (List A))
      (es fs : List (Entry (List A))) → Along xs rs r es q → Along ys ss q fs s →
      Along (xs ++ ys) (rs ++ ss) r (es ++ fs) s
  along_on xs ys rs ss r q s es fs h k =
      let front = h.came.pieces in
      let back = k.came.pieces in
      let first = flat_map (lines_of_piece columns) front in
      let after_them = flat_map (lines_of_piece columns) back in
      let before = flat_map (entries_of_piece columns) front in
      let after = flat_map (entries_of_piece columns) back in
      record {
        width = k.width ∙ h.width;
        options = k.options ∙ h.options;
        came = record {
          pieces = front ++ back;
          are = each_append (IsPiece columns r) front back h.came.are (each_gives (IsPiece columns q) (IsPiece columns r) (piece_of_other r q h.width h.options) back k.came.are);
          lines = subst (λ ls. AllZip StaysLine ls s.lines) (append_assoc r.lines first after_them ∙ ap (λ ls. r.lines ++ ls) (sym (flat_map-append (lines_of_piece columns) front back)))
              (stay_on ((r.lines ++ first) ++ after_them) (q.lines ++ after_them) s.lines
              (all_zip_append StaysLine (r.lines ++ first) after_them q.lines after_them h.came.lines (all_stay after_them)) k.came.lines);
          entries = grind (arith, append_assoc, flat_map-append);
          put_rows =
              ap (map cells_in) (rows_append front back) ∙ map-append cells_in (rows_in front) (rows_in back)
              ∙ ap (λ zs. zs ++ map cells_in (rows_in back)) h.came.put_rows ∙ ap (λ zs. xs ++ zs) k.came.put_rows;
        };
        added = map-append added_of_piece front back ∙ ap (λ ts. ts ++ map added_of_piece back) h.added ∙ ap (λ ts. rs ++ ts) k.added;
        become = become_on front back r.lines q.lines s.lines h.become k.become;
        chain = grind (arith, rows_append, chain_append);
      }

  -- these pieces came
  these : (r s : Renderer D A (List A)) (es : List (Entry (List A))) (ps : List (Piece D A columns)) → s.width ≡ r.width → s.options ≡ r.options → Each (IsPiece columns r) ps →
      AllZip StaysLine (r.lines ++ flat_map (lines_of_piece columns) ps) s.lines → open_run r.block ++ es ≡ flat_map (entries_of_piece columns) ps ++ open_run s.block →
      BecomeBy columns ps r.lines s.lines → Chain columns r.options.draw_borders r.hanging (rows_in ps) s.hanging → Along (map cells_in (rows_in ps)) (map added_of_piece ps) r es s
  these r s es ps width options are lines entries become chain =
      record { width = width; options = options; came = record { pieces = ps; are = are; lines = lines; entries = entries; put_rows = refl }; added = refl; become = become; chain = chain }

  -- parts of calls
  course_along : (r s : Renderer D A (List A)) (es : List (Entry (List A))) (bs : List (List BorderCell))
      (xs : List (Part D A)) → Course columns any r s es bs xs → IsSound columns r →
      Along [] (map part_added xs) r es s
  course_along r s es bs xs path sound =
      let came = (let in_parts = course_parts columns any r s es bs path sound in in_parts.came) in
      let same = path_frame columns any r s es bs path in
      record {
        width = ap (λ (f : Frame A). f.width) same;
        options = ap (λ (f : Frame A). f.options) same;
        came = record {
          pieces = map part xs;
          are = each_map part (IsPart columns r) (IsPiece columns r) (λ p k. k) xs came.are;
          lines = subst (λ ls. AllZip StaysLine ls s.lines) (came.lines ∙ ap (λ ls. r.lines ++ ls) (sym (flat_map-map (lines_of_piece columns) part xs))) (all_stay s.lines);
          entries = came.entries ∙ ap (λ fs. fs ++ open_run s.block) (sym (flat_map-map (entries_of_piece columns) part xs));
          put_rows = ap (map cells_in) (no_rows xs);
        };
        added = map-map added_of_piece part xs;
        become = subst (BecomeBy columns (map part xs) r.lines) (sym came.lines) (parts_become xs r.lines);
        chain = subst (λ rows. Chain columns r.options.draw_borders r.hanging rows s.hanging) (sym (no_rows xs)) (ap (λ (f : Frame A). f.hanging) same);
      }

  row_along : (p : PutRow D A columns) → p.before.block ≡ None → (after_put columns p).block ≡ None →
      Along (p.cells ∷ []) (row_added p.before p.collapses p.cells ∷ []) p.before (laid_entries (joined (row_shown p).lines)) (after_put columns p)
  row_along p none closed =
      let m : Renderer D A (List A) = p.before in
      let s : Renderer D A (List A) = after_put columns p in
      let seen : SeenRow (List A) = row_shown p in
      let same = row_beside columns m seen in
      let above = before_border m.lines ++ border_lines seen.above in
      let new = lines_laid columns m seen.lines ++ border_lines_of columns m seen.next in
      let es = laid_entries (joined seen.lines) in
      let whole : AllZip StaysLine (m.lines ++ (new ++ [])) s.lines =
      subst (λ ls. AllZip StaysLine (m.lines ++ (new ++ [])) ls) (sym (row_lines m seen))
      (subst (λ ls. AllZip StaysLine (m.lines ++ ls) (above ++ new)) (sym (append-nil new)) (all_zip_append StaysLine m.lines new above new (top_stays p) (all_stay new))) in
      these m s es (put p ∷ [])
      (ap (λ (q : Renderer D A (List A)). q.width) same) (ap (λ (q : Renderer D A (List A)). q.options) same) (record { width = refl; options = refl; block = none }, tt) whole
      (ap (λ (o : Option (Open (List A))). open_run o ++ es) none ∙ sym (append-nil es) ∙ sym (append-nil (es ++ [])) ∙ ap (λ (o : Option (Open (List A))). (es ++ []) ++ open_run o) (sym closed))
      (refl, row_lines m seen)
      (refl, refl, ap (λ (q : Renderer D A (List A)). q.hanging) same)

  -- one that adds nothing, whatever it makes of the decorator
  asked_along : (d : D) (r : Renderer D A (List A)) → Along [] [] r [] (record r { decorator = d })
  asked_along d r =
      these r (record r { decorator = d }) [] [] refl refl tt
      (subst (λ ls. AllZip StaysLine ls r.lines) (sym (append-nil r.lines)) (all_stay r.lines))
      (append-nil (open_run r.block)) refl refl

  -- footnotes' lines
  noted_along : (ts : List (List (Item (List A)))) (r : Renderer D A (List A)) → Along [] (notes_add columns ts r) r [] (fold (with_line columns) r ts)
  noted_along [] r = asked_along r.decorator r
  noted_along (t ∷ ts) r =
      let q : Renderer D A (List A) = with_line columns r t in
      along_on [] [] (note_added r t ∷ []) (notes_add columns ts q) r q (fold (with_line columns) q ts) [] []
      (these r q [] (noted r t ∷ []) refl refl ((refl, refl), tt) (all_stay q.lines) (append-nil (open_run r.block)) refl refl) (noted_along ts q)

  module _ (decoration : Decoration D A) where
    -- ---- calls and rows

    -- as the only one of calls
    pub alone : (c : Call (List A)) (r s : Renderer D A (List A)) → Does columns decoration c r s → Brings columns decoration (c ∷ []) r (entries_brought columns decoration c r) s
    alone c r s does = grind (arith, append-nil)

    -- a row takes no text back
    pub texts_only_come : (collapses : Bool) (cells : List (GivenCell (List A))) (r s : Renderer D A (List A)) →
        after_act columns decoration (row collapses cells) r ≡ done s →
        (more : List (Item (List A))) × (text_of_lines s.lines ≡ text_of_lines r.lines ++ more)
    texts_only_come collapses cells r s h =
        let (m, flushed, seated, are, is, brings) = act_step columns decoration (row collapses cells) r s h in
        let p : PutRow D A columns = row_to_put columns decoration collapses cells m seated are in
        let seen : SeenRow (List A) = row_shown p in
        let first = moves_grow columns (flush r ∷ []) r m (m, (refl, row_flushes columns r m flushed), refl) in
        let new = lines_laid columns m seen.lines ++ border_lines_of columns m seen.next in (
          text_of_lines first.0 ++ text_of_lines new,
          ap (λ (q : Renderer D A (List A)). text_of_lines q.lines) is ∙ ap text_of_lines (row_lines m seen) ∙ text_of_lines-append (under_row m seen).lines new
              ∙ ap (λ js. js ++ text_of_lines new)
              (stay_texts m.lines (under_row m seen).lines (top_stays p)
              ∙ ap text_of_lines first.1 ∙ text_of_lines-append r.lines first.0)
              ∙ append_assoc (text_of_lines r.lines) (text_of_lines first.0) (text_of_lines new),
        )

    pub rows_one : (act : Act A) (acts : List (Act A)) → rows_of (act ∷ acts) ≡ rows_of (act ∷ []) ++ rows_of acts
    rows_one act acts = grind arith

    act_along : (act : Act A) (r s : Renderer D A (List A)) → IsSound columns r → ActStep columns decoration act r s →
        Along (rows_of (act ∷ [])) (act_adds columns decoration act r) r (act_enters columns decoration act r) s
    act_along (call c) r s sound h = course_along r s _ _ _ (call_moves columns any decoration c r s (λ appends. tt) h) sound
    act_along (fmt_links links) r s sound h =
        subst (λ (q : Renderer D A (List A)). Along [] (act_adds columns decoration (fmt_links links) r) r [] q) (sym h)
        (noted_along (flat_map (footnote_lines columns r) links) r)
    act_along (finalise targets) r s sound h =
        subst (λ (q : Renderer D A (List A)). Along [] [] r [] q) (sym h)
        (asked_along (decoration.after r.decorator (change.finalise (listed r.options targets))) r)
    act_along (row collapses cells) r s sound (m, flushed, seated, are, is, brings) =
        let p : PutRow D A columns = row_to_put columns decoration collapses cells m seated are in
        let q : Renderer D A (List A) = after_put columns p in
        let first = course_along r m [] [] (flush_ends r) (one columns any (flush r) r m (refl, row_flushes columns r m flushed)) sound in
        let second = row_along p (flushed_none columns r m (row_flushes columns r m flushed)) (row_closed columns r q (m, flushed, row_shown p, refl)) in
        let ends = map part_added (flush_ends r) in
        let put_it = λ (o : Outcome (Renderer D A (List A))). told_by (λ q. row_added q collapses cells ∷ []) o in
        subst (λ xs. Along (cells ∷ []) (ends ++ xs) r (act_enters columns decoration (row collapses cells) r) s) (sym (ap put_it (live_done r.failure (after_flush columns r) m flushed).1))
        (subst (λ fs. Along (cells ∷ []) (ends ++ row_added m collapses cells ∷ []) r fs s) (sym brings)
        (subst (λ (there : Renderer D A (List A)). Along (cells ∷ []) (ends ++ row_added m collapses cells ∷ []) r (laid_entries (joined (row_shown p).lines)) there) (sym is)
        (along_on [] (cells ∷ []) ends (row_added m collapses cells ∷ []) r m q []
        (laid_entries (joined (row_shown p).lines)) first second)))

    pub acts_along : (acts : List (Act A)) (r s : Renderer D A (List A)) → IsSound columns r →
        after_acts columns decoration acts r ≡ done s →
        Along (rows_of acts) (acts_add columns decoration acts r) r (acts_enter columns decoration acts r) s
    acts_along [] r s sound h = subst (λ (q : Renderer D A (List A)). Along [] [] r [] q) (sym (one_done r s h)) (asked_along r.decorator r)
    acts_along (act ∷ acts) r s sound h =
        let (m, does, others) = done_first (after_act columns decoration act r) (after_acts columns decoration acts) s h in
        let adds = act_adds columns decoration act r in
        let enters = act_enters columns decoration act r in
        let here = act_along act r m sound (act_step columns decoration act r m does) in
        let there = acts_along acts m s (sound_alike columns r m here.width here.options sound) others in
        subst (λ o. Along (rows_of (act ∷ acts)) (adds ++ told_by (acts_add columns decoration acts) o) r (enters ++ told_by (acts_enter columns decoration acts) o) s) (sym does)
        (subst (λ xs. Along xs (adds ++ acts_add columns decoration acts m) r (enters ++ acts_enter columns decoration acts m) s) (sym (rows_one act acts))
        (along_on (rows_of (act ∷ [])) (rows_of acts) adds (acts_add columns decoration acts m) r m s enters (acts_enter columns decoration acts m) here there))
