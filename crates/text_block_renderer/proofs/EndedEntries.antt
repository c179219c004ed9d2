-- Entries that came, less those of the open run, and what moves and acts keep of a renderer, of these, and of the borders that were drawn as text.
use Rattle.text_block_renderer.proofs.Common.{◌≡◌, ℕ, ◌-◌, Option, None, Some, List, [], ◌∷◌, ◌++◌, map, length, flat_map, fold, refl, ap, sym, ◌∙◌, subst, arith, append_assoc, append-nil, AllZip}
use Rattle.text_block_renderer.proofs.Common.{map-append, flat_map-append, length-append, run_of, Entry, Item, Border, without_holes, Decoration, Outcome, done, after_flush, Open, Renderer, with_line}
use Rattle.text_block_renderer.proofs.Common.{open_run, with_border, footnote_lines, run, told_by, with_next, laid_entry, laid_entries, entries_brought, StaysLine, Act, call, row, fmt_links, finalise}
use Rattle.text_block_renderer.proofs.Common.{after_act, before_run, act_comes, acts_come, act_adds, acts_add, part_added, row_added, notes_add, run_of_block, flush_ends, call_adds, border_drawn}
use Rattle.text_block_renderer.proofs.Common.{drawn_of_part, drawn_below, drawn_of_row, drawn_of_added, borders_drawn}
use Rattle.text_block_renderer.proofs.Common.{PutRow, SeenRow, row_shown, row_seated, option_map}
use Rattle.std.proofs.lemmas.List.Folds.{flat_map-map}
use Rattle.std.proofs.Math.Seq.{take-append_seam, drop-append_seam}
use Rattle.tbr_model.specs.Layout.{joined}
use Rattle.tbr_tagged.proofs.Outcomes.{live_done}
use Rattle.tbr_renderer.proofs.FlushedBlocks.{EndsBlock, FlushesBlock, Flushes}
use Rattle.tbr_renderer.proofs.JoinedTexts.{run_joined}
use Rattle.tbr_renderer.proofs.OutcomeParts.{one_done, done_first}
use Rattle.text_block_renderer.proofs.ActSteps.{row_to_put, ActStep, act_step}
use Rattle.text_block_renderer.proofs.ActParts.{top_stays}
use Rattle.tbr_renderer.proofs.FlushedBlocks.{flushed_none, lines_beside}
use Rattle.text_block_renderer.proofs.Moves.{any, Move, flush, line, rule, join, turn, brought_by, brought, added_by, added, Makes, MakesAll}
use Rattle.text_block_renderer.proofs.CallMoves.{call_moves}
use Rattle.tbr_renderer.proofs.RowsOfCells.{row_flushes, row_closed, under_row}
use Rattle.text_block_renderer.proofs.LastingLines.{all_stay}

-- borders as text
abbrev pub Texts : Type 0 → Type 0
Texts A = List (List (Item (List A)))

-- Of the entries that came, those of the open run are the last, and something holds of the others and of borders.
abbrev pub Ended : {D A : Type 0} → (Renderer D A (List A) → List (Entry (List A)) → Texts A → Type 0) → Renderer D A (List A) → List (Entry (List A)) → Texts A → Type 0
Ended {D} {A} Q r es bs = (ended : List (Entry (List A))) × (ended ++ open_run r.block ≡ es) × Q r ended bs

-- What goes on to hold where a run ends, a text is laid or a border put, and where lines, waiting markers, width and options stay.
pub record GoesOn {D A : Type 0} (columns : ℕ → Option ℕ) (Q : Renderer D A (List A) → List (Entry (List A)) → Texts A → Type 0) : Type 0 where
  pub flushed : (r s : Renderer D A (List A)) (b : Open (List A)) (es : List (Entry (List A))) (bs : Texts A) → EndsBlock columns r b s → Q r es bs → Q s (es ++ run_of b.events) bs
  pub laid : (r : Renderer D A (List A)) (t : List (Item (List A))) (es : List (Entry (List A))) (bs : Texts A) → Q r es bs → Q (with_line columns r t) (es ++ laid_entries t) bs
  pub ruled : (r : Renderer D A (List A)) (b : Border (List A)) (es : List (Entry (List A))) (bs : Texts A) → Q r es bs → Q (with_border columns r b) es (bs ++ border_drawn columns r b)
  pub stays : (r s : Renderer D A (List A)) (es : List (Entry (List A))) (bs : Texts A) →
      AllZip StaysLine r.lines s.lines → s.waiting ≡ r.waiting → s.width ≡ r.width → s.options ≡ r.options → Q r es bs →
      Q s es bs

-- ---- what draws no border

module _ {D A : Type 0} (columns : ℕ → Option ℕ) where
  runs_draw_none : (q : Renderer D A (List A)) (o : Option (Open (List A))) → flat_map (drawn_of_part columns) (run_of_block q o) ≡ []
  runs_draw_none q None = refl
  runs_draw_none q (Some b) = refl

  notes_draw_none : (decoration : Decoration D A) (ts : List (List (Item (List A)))) (r : Renderer D A (List A)) → flat_map (drawn_of_added columns decoration) (notes_add columns ts r) ≡ []
  notes_draw_none decoration [] r = refl
  notes_draw_none decoration (t ∷ ts) r = notes_draw_none decoration ts (with_line columns r t)

module _ {D A : Type 0} (columns : ℕ → Option ℕ) (Q : Renderer D A (List A) → List (Entry (List A)) → Texts A → Type 0) (on : GoesOn columns Q) where
  abbrev Top : Type 0
  Top = Renderer D A (List A)

  abbrev Came : Type 0
  Came = List (Entry (List A))

  flush_on : (r s : Top) (o : Option (Open (List A))) (es : Came) (bs : Texts A) → FlushesBlock columns r o s → Q r es bs → Q s (es ++ open_run o) bs
  flush_on r s None es bs h k = subst (λ fs. Q s fs bs) (sym (append-nil es)) (subst (λ (q : Top). Q q es bs) (sym h) k)
  flush_on r s (Some b) es bs h k = on.flushed r s b es bs h k

  pub flushed_on : (r s : Top) (es : Came) (bs : Texts A) → Flushes columns r s → Ended Q r es bs → Ended Q s es bs
  flushed_on r s es bs h (ended, whole, k) =
      let all = ended ++ open_run r.block in
      (all, ap (λ (o : Option (Open (List A))). all ++ open_run o) (flushed_none columns r s h) ∙ append-nil all ∙ whole, flush_on r s r.block ended bs h k)

  -- the same lines and markers, with more in the open run
  joined_on : (r s : Top) (more es : Came) (bs : Texts A) → s.lines ≡ r.lines → s.waiting ≡ r.waiting →
      s.width ≡ r.width → s.options ≡ r.options → open_run s.block ≡ open_run r.block ++ more → Ended Q r es bs →
      Ended Q s (es ++ more) bs
  joined_on r s more es bs lines waiting width options run (ended, whole, k) = (
    ended,
    ap (λ fs. ended ++ fs) run ∙ sym (append_assoc ended (open_run r.block) more) ∙ ap (λ fs. fs ++ more) whole,
    on.stays r s ended bs (subst (λ ls. AllZip StaysLine r.lines ls) (sym lines) (all_stay r.lines)) waiting width options k,
  )

  -- where no block is open
  put_on : (r s : Top) (more es : Came) (bs cs : Texts A) → r.block ≡ None → s.block ≡ None → ((ended : Came) → Q r ended bs → Q s (ended ++ more) cs) → Ended Q r es bs → Ended Q s (es ++ more) cs
  put_on r s more es bs cs none closed puts (ended, whole, k) =
      let same : ended ≡ es = sym (append-nil ended) ∙ ap (λ (o : Option (Open (List A))). ended ++ open_run o) (sym none) ∙ whole in
      (ended ++ more, ap (λ (o : Option (Open (List A))). (ended ++ more) ++ open_run o) closed ∙ append-nil (ended ++ more) ∙ ap (λ fs. fs ++ more) same, puts ended k)

  -- no border more
  no_more : (s : Top) (es : Came) (bs cs : Texts A) → cs ≡ [] → Ended Q s es bs → Ended Q s es (bs ++ cs)
  no_more s es bs cs none k = subst (Ended Q s es) (sym (ap (λ ds. bs ++ ds) none ∙ append-nil bs)) k

  -- ---- moves

  move_on : (m : Move D A) (r s : Top) (es : Came) (bs : Texts A) → Makes columns any m r s → Ended Q r es bs → Ended Q s (es ++ brought_by m) (bs ++ flat_map (drawn_of_part columns) (added_by m))
  move_on (flush q) r s es bs h k =
      no_more s (es ++ []) bs _ (runs_draw_none columns q q.block) (subst (λ fs. Ended Q s fs bs) (sym (append-nil es)) (flushed_on r s es bs h.1 k))
  move_on (line q is) r s es bs h k =
      no_more s (es ++ laid_entries is) bs [] refl
      (subst (λ (t : Top). Ended Q t (es ++ laid_entries is) bs) (sym h.2) (put_on r (with_line columns r is) (laid_entries is) es bs bs h.1 h.1 (λ ended j. on.laid r is ended bs j) k))
  move_on (rule q cells) r s es bs h k =
      let b = without_holes cells r.annotations in
      let drawn = border_drawn columns r b in
      let all = subst (λ (t : Top). Ended Q t (es ++ []) (bs ++ drawn)) (sym h.2)
      (put_on r (with_border columns r b) [] es bs (bs ++ drawn) h.1 h.1
      (λ ended j. subst (λ fs. Q (with_border columns r b) fs (bs ++ drawn)) (sym (append-nil ended))
      (on.ruled r b ended bs j)) k) in
      subst
      (λ (t : Top). Ended Q s (es ++ []) (bs ++ (border_drawn columns t (without_holes cells t.annotations) ++ [])))
      (sym h.3) (subst (λ cs. Ended Q s (es ++ []) (bs ++ cs)) (sym (append-nil drawn)) all)
  move_on (join more) r s es bs h k =
      no_more s (es ++ run_of more) bs [] refl
      (joined_on r s (run_of more) es bs (ap (λ (q : Top). q.lines) h) (ap (λ (q : Top). q.waiting) h)
      (ap (λ (q : Top). q.width) h) (ap (λ (q : Top). q.options) h)
      (ap (λ (q : Top). open_run q.block) h ∙ run_joined r more) k)
  move_on turn r s es bs h k = no_more s (es ++ []) bs [] refl (joined_on r s [] es bs h.lines h.waiting h.width h.options (ap open_run h.block ∙ sym (append-nil (open_run r.block))) k)

  moves_on : (ms : List (Move D A)) (r s : Top) (es : Came) (bs : Texts A) → MakesAll columns any ms r s →
      Ended Q r es bs → Ended Q s (es ++ brought ms) (bs ++ flat_map (drawn_of_part columns) (added ms))
  moves_on [] r s es bs h k = no_more s (es ++ []) bs [] refl (subst (λ (q : Top). Ended Q q (es ++ []) bs) (sym h) (subst (λ fs. Ended Q r fs bs) (sym (append-nil es)) k))
  moves_on (m ∷ ms) r s es bs h k =
      let here = flat_map (drawn_of_part columns) (added_by m) in
      let all = moves_on ms h.0 s (es ++ brought_by m) (bs ++ here) h.2 (move_on m r h.0 es bs h.1 k) in
      subst (λ cs. Ended Q s (es ++ brought (m ∷ ms)) (bs ++ cs)) (sym (flat_map-append (drawn_of_part columns) (added_by m) (added ms)))
      (subst (Ended Q s (es ++ brought (m ∷ ms))) (append_assoc bs here (flat_map (drawn_of_part columns) (added ms)))
      (subst (λ fs. Ended Q s fs ((bs ++ here) ++ flat_map (drawn_of_part columns) (added ms))) (append_assoc es (brought_by m) (brought ms)) all))

  -- ---- acts

  laid_on : (ts : List (List (Item (List A)))) (r : Top) (es : Came) (bs : Texts A) → Q r es bs → Q (fold (with_line columns) r ts) (es ++ laid_entries (joined ts)) bs
  laid_on [] r es bs k = subst (λ fs. Q r fs bs) (sym (append-nil es)) k
  laid_on (t ∷ ts) r es bs k =
      let q = with_line columns r t in
      subst (λ fs. Q (fold (with_line columns) q ts) fs bs)
      (append_assoc es (laid_entries t) (laid_entries (joined ts))
      ∙ ap (λ fs. es ++ fs) (sym (map-append laid_entry t (joined ts))))
      (laid_on ts q (es ++ laid_entries t) bs (on.laid r t es bs k))

  below_on : (r : Top) (o : Option (Border (List A))) (es : Came) (bs : Texts A) → Q r es bs → Q (with_next columns r o) es (bs ++ drawn_below columns r o)
  below_on r None es bs k = subst (Q r es) (sym (append-nil bs)) k
  below_on r (Some b) es bs k = on.ruled r b es bs k

  -- entries come before those of the open run
  placed : (r : Top) (ended more : Came) → (ended ++ more) ++ open_run r.block ≡ before_run r more (ended ++ open_run r.block)
  placed r ended more =
      let run = open_run r.block in
      let n : length (ended ++ run) - length run ≡ length ended = omega (arith, length-append ended run) in
      rw (n, take-append_seam ended run, drop-append_seam ended run)

  module _ (decoration : Decoration D A) where
    abbrev drawn_by : Act A → Top → Texts A
    drawn_by act r = flat_map (drawn_of_added columns decoration) (act_adds columns decoration act r)

    act_on : (act : Act A) (r s : Top) (es : Came) (bs : Texts A) → ActStep columns decoration act r s → Ended Q r es bs → Ended Q s (act_comes columns decoration act r es) (bs ++ drawn_by act r)
    act_on (call c) r s es bs h k =
        let path = call_moves columns any decoration c r s (λ appends. tt) h in
        let came = es ++ entries_brought columns decoration c r in
        subst (λ cs. Ended Q s came (bs ++ cs)) (sym (flat_map-map (drawn_of_added columns decoration) part_added (call_adds columns decoration c r)))
        (subst (λ ps. Ended Q s came (bs ++ flat_map (drawn_of_part columns) ps)) path.adds
        (subst (λ fs. Ended Q s (es ++ fs) (bs ++ flat_map (drawn_of_part columns) (added path.moves))) path.brings (moves_on path.moves r s es bs path.makes k)))
    act_on (finalise targets) r s es bs h k =
        no_more s (es ++ []) bs [] refl
        (joined_on r s [] es bs (ap (λ (q : Top). q.lines) h) (ap (λ (q : Top). q.waiting) h)
        (ap (λ (q : Top). q.width) h) (ap (λ (q : Top). q.options) h)
        (ap (λ (q : Top). open_run q.block) h ∙ sym (append-nil (open_run r.block))) k)
    act_on (fmt_links links) r s es bs h (ended, whole, k) =
        let ts = flat_map (footnote_lines columns r) links in
        let more = laid_entries (joined ts) in
        no_more s (before_run r more es) bs _ (notes_draw_none columns decoration ts r)
        (subst (λ (q : Top). Ended Q q (before_run r more es) bs) (sym h) (
          ended ++ more,
          ap (λ (o : Option (Open (List A))). (ended ++ more) ++ open_run o)
              (ap (λ (q : Top). q.block) (lines_beside columns ts r)) ∙ placed r ended more
              ∙ ap (before_run r more) whole,
          laid_on ts r ended bs k,
        ))
    act_on (row collapses cells) r s es bs h k =
        let (m, flushed, seated, are, is, brings) = h in
        let p : PutRow D A columns = row_to_put columns decoration collapses cells m seated are in
        let seen : SeenRow (List A) = row_shown p in
        let flushes = row_flushes columns r m flushed in
        let top = under_row m seen in
        let full = fold (with_line columns) top seen.lines in
        let more = laid_entries (joined seen.lines) in
        let next = drawn_below columns full seen.next in
        let put_it = λ (o : Outcome Top). flat_map (drawn_of_added columns decoration) (told_by (λ q. row_added q collapses cells ∷ []) o) in
        let ends = map part_added (flush_ends r) in
        let draws : drawn_by (row collapses cells) r ≡ next =
        flat_map-append (drawn_of_added columns decoration) ends (told_by (λ q. row_added q collapses cells ∷ []) (after_flush columns r))
        ∙ ap (λ cs. cs ++ put_it (after_flush columns r)) (flat_map-map (drawn_of_added columns decoration) part_added (flush_ends r) ∙ runs_draw_none columns r r.block)
        ∙ ap put_it (live_done r.failure (after_flush columns r) m flushed).1 ∙ append-nil (drawn_of_row columns m _)
        ∙ ap (λ o. drawn_of_row columns m (option_map (row_seated p.same columns collapses m) o)) are
        ∙ sym (ap (λ (q : Top). drawn_below columns q seen.next) (lines_beside columns seen.lines top)) in
        subst (λ cs. Ended Q s (act_comes columns decoration (row collapses cells) r es) (bs ++ cs)) (sym draws)
        (subst (λ fs. Ended Q s (es ++ fs) (bs ++ next)) (sym brings)
        (put_on m s more es bs (bs ++ next) (flushed_none columns r m flushes) (row_closed columns r s (m, flushed, seen, is))
        (λ ended j. subst (λ (q : Top). Q q (ended ++ more) (bs ++ next)) (sym is)
        (below_on full seen.next (ended ++ more) bs
        (laid_on seen.lines top ended bs
        (on.stays m top ended bs (top_stays columns p) refl refl refl j))))
        (flushed_on r m es bs flushes k)))

    pub acts_on : (acts : List (Act A)) (r s : Top) (es : Came) (bs : Texts A) → run (after_act columns decoration) acts r ≡ done s → Ended Q r es bs →
        Ended Q s (acts_come columns decoration acts r es) (bs ++ borders_drawn columns decoration acts r)
    acts_on [] r s es bs h k = no_more s es bs [] refl (subst (λ (q : Top). Ended Q q es bs) (sym (one_done r s h)) k)
    acts_on (act ∷ acts) r s es bs h k =
        let (m, does, others) = done_first (after_act columns decoration act r) (run (after_act columns decoration) acts) s h in
        let came = act_comes columns decoration act r es in
        let adds = act_adds columns decoration act r in
        let here = drawn_by act r in
        let draw = drawn_of_added columns decoration in
        let all = acts_on acts m s came (bs ++ here) others (act_on act r m es bs (act_step columns decoration act r m does) k) in
        subst (λ o. Ended Q s (told_by (λ q. acts_come columns decoration acts q came) o) (bs ++ flat_map draw (adds ++ told_by (acts_add columns decoration acts) o))) (sym does)
        (subst (Ended Q s (acts_come columns decoration acts m came))
        (append_assoc bs here (borders_drawn columns decoration acts m)
        ∙ ap (λ cs. bs ++ cs) (sym (flat_map-append draw adds (acts_add columns decoration acts m)))) all)
