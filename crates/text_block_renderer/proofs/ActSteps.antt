-- Calls and rows one by one: each is a call, or a row that is put after a flush.
use Rattle.text_block_renderer.proofs.Common.{◌≡◌, ℕ, Option, Some, List, [], ◌∷◌, ◌++◌, map, append-nil, append_assoc, subst, ap, sym, ◌∙◌, arith, pointwise, Entry, Decoration}
use Rattle.text_block_renderer.proofs.Common.{Outcome, done, if_live, Renderer, after_flush, listed, with_footnotes, and_then, run, told_by, Call, Does}
use Rattle.text_block_renderer.proofs.Common.{Steps, after, entries_brought, brought, laid_entries, Act, call, row, fmt_links, finalise, after_act, row_seen, texts_of_row, act_brought, act_comes}
use Rattle.text_block_renderer.proofs.Common.{acts_come}
use Rattle.text_block_renderer.proofs.Common.{Bool, option_map, GivenCell, with_hanging, own_cells, row_seated, with_row, PutRow, row_shown}
use Rattle.tbr_model.specs.Layout.{joined}
use Rattle.tbr_rows.specs.declared.LineSet.{LineSet as Cell}
use Rattle.tbr_annotations.proofs.Told.{annotations_tell}
use Rattle.tbr_decor.specs.Change as change
use Rattle.tbr_tagged.proofs.Outcomes.{live_done}
use Rattle.tbr_renderer.proofs.OutcomeParts.{one_done, done_first, run_last}
use Rattle.tbr_renderer.proofs.RowsOfCells.{row_parts}

-- what a row leaves
abbrev pub after_put : {D A : Type 0} (columns : ℕ → Option ℕ) → PutRow D A columns → Renderer D A (List A)
after_put columns p = with_row columns p.before (row_shown p)

module _ {D A : Type 0} (columns : ℕ → Option ℕ) (decoration : Decoration D A) where
  -- a row of these cells, which have their places in a renderer
  abbrev pub row_to_put : (collapses : Bool) (cells : List (GivenCell (List A))) (m : Renderer D A (List A)) (seated : List (Cell (List A))) →
      with_hanging 0 m.hanging (own_cells (pointwise decoration.same) columns cells m) ≡ Some seated → PutRow D A columns
  row_to_put collapses cells m seated are = record {
    same = pointwise decoration.same;
    tells = annotations_tell decoration.same decoration.tells;
    before = m;
    collapses = collapses;
    cells = cells;
    seated = seated;
    are_seated = are;
  }

  -- one that succeeds; of a row, what it brings
  abbrev pub ActStep : Act A → Renderer D A (List A) → Renderer D A (List A) → Type 0
  ActStep (call c) r s = Does columns decoration c r s
  ActStep (row collapses cells) r s =
      (m : Renderer D A (List A)) × (if_live r.failure (after_flush columns r) ≡ done m) × (seated : List (Cell (List A)))
      × (are : with_hanging 0 m.hanging (own_cells (pointwise decoration.same) columns cells m) ≡ Some seated)
      × (s ≡ after_put columns (row_to_put collapses cells m seated are))
      × (act_brought columns decoration (row collapses cells) r ≡ laid_entries (joined (row_shown (row_to_put collapses cells m seated are)).lines))
  ActStep (fmt_links links) r s = s ≡ with_footnotes columns r links
  ActStep (finalise targets) r s = s ≡ record r { decorator = decoration.after r.decorator (change.finalise (listed r.options targets)) }

  abbrev pub after_acts : List (Act A) → Renderer D A (List A) → Outcome (Renderer D A (List A))
  after_acts = run (after_act columns decoration)

  pub act_step : (act : Act A) (r s : Renderer D A (List A)) → after_act columns decoration act r ≡ done s → ActStep act r s
  act_step (call c) r s h = h
  act_step (row collapses cells) r s h =
      let same = pointwise decoration.same in
      let (m, flushed, seated, are, is) = row_parts same columns collapses cells r s h in (
        m,
        flushed,
        seated,
        are,
        is,
        ap
            (told_by (λ q. texts_of_row columns decoration (row_seen columns decoration collapses cells q)))
            (live_done r.failure (after_flush columns r) m flushed).1
            ∙ ap (λ o. texts_of_row columns decoration (option_map (row_seated same columns collapses m) o)) are,
      )
  act_step (fmt_links links) r s h = one_done (with_footnotes columns r links) s (live_done r.failure (done (with_footnotes columns r links)) s h).1
  act_step (finalise targets) r s h = grind (arith, one_done, live_done)

  -- calls alone are acts, and bring what they bring
  pub calls_come : (calls : List (Call (List A))) (r s : Renderer D A (List A)) (es : List (Entry (List A))) → Steps columns decoration calls r s →
      (after_acts (map call calls) r ≡ done s) × (acts_come columns decoration (map call calls) r es ≡ es ++ brought columns decoration calls r)
  calls_come [] r s es h = (h, sym (append-nil es))
  calls_come (c ∷ calls) r s es h =
      let (m, first, others) = done_first (after columns decoration c r) (run (after columns decoration) calls) s h in
      let here = entries_brought columns decoration c r in
      let (leads, come) = calls_come calls m s (es ++ here) others in
      subst
      (λ o. (and_then o (after_acts (map call calls)) ≡ done s) × (told_by (λ q. acts_come columns decoration (map call calls) q (es ++ here)) o
      ≡ es ++ (here ++ told_by (λ q. brought columns decoration calls q) o)))
      (sym first) (leads, come ∙ append_assoc es here (brought columns decoration calls m))

  -- one act more
  pub acts_then : (acts : List (Act A)) (act : Act A) (r m s : Renderer D A (List A)) (es : List (Entry (List A))) → after_acts acts r ≡ done m → after_act columns decoration act m ≡ done s →
      (after_acts (acts ++ act ∷ []) r ≡ done s) × (acts_come columns decoration (acts ++ act ∷ []) r es ≡ act_comes columns decoration act m (acts_come columns decoration acts r es))
  acts_then [] act r m s es h does = grind (arith, one_done, run_last)
  acts_then (a ∷ acts) act r m s es h does =
      let (n, first, others) = done_first (after_act columns decoration a r) (after_acts acts) m h in
      let came = act_comes columns decoration a r es in
      subst
      (λ o. (and_then o (after_acts (acts ++ act ∷ [])) ≡ done s) × (told_by (λ q. acts_come columns decoration (acts ++ act ∷ []) q came) o
      ≡ act_comes columns decoration act m (told_by (λ q. acts_come columns decoration acts q came) o)))
      (sym first) (acts_then acts act n m s came others does)
