-- A border that is the last line, and lines that come after it.
use Rattle.text_block_renderer.proofs.Common.{◌≡◌, ℕ, suc, ◌-◌, ◌⊎◌, inl, inr, Bool, Option, Some, None, List, [], ◌∷◌, ◌++◌, map, flat_map, take, length, refl, ap, sym, ◌∙◌, subst, arith}
use Rattle.text_block_renderer.proofs.Common.{append_assoc, append-nil, Border, Decoration, Renderer, after, footnote_lines, Line, border, without_last, last_border, before_border, border_above}
use Rattle.text_block_renderer.proofs.Common.{border_lines, done, GivenCell, after_flush, Act, call, row, fmt_links, finalise, rows_of, after_act, run, PutRow, put, lines_of_piece}
use Rattle.text_block_renderer.proofs.Common.{lines_laid, border_lines_of}
use Rattle.text_block_renderer.proofs.Common.{row_shown}
use Rattle.tbr_rows.specs.declared.LineSet.{LineSet as Cell}
use Rattle.tbr_renderer.proofs.OutcomeParts.{one_done, done_first, run_last}
use Rattle.tbr_tagged.proofs.Outcomes.{live_done}
use Rattle.text_block_renderer.specs.LastBorders.{lines_above}
use Rattle.text_block_renderer.proofs.Moves.{flush}
use Rattle.text_block_renderer.proofs.AddedLines.{moves_grow, laid_lines, steps_grow}
use Rattle.text_block_renderer.proofs.ActSteps.{row_to_put, act_step}
use Rattle.text_block_renderer.proofs.ActParts.{row_lines}
use Rattle.tbr_renderer.proofs.RowsOfCells.{row_flushes}

-- ---- lists without their last item

module _ {X : Type 0} where
  two : (x y : X) (ys : List X) → without_last (x ∷ y ∷ ys) ≡ x ∷ without_last (y ∷ ys)
  two x y ys = let next : length (x ∷ y ∷ ys) - 1 ≡ suc (length (y ∷ ys) - 1) = omega arith in ap (λ n. take n (x ∷ y ∷ ys)) next

  last_left : (xs : List X) (y : X) (ys : List X) → without_last (xs ++ y ∷ ys) ≡ xs ++ without_last (y ∷ ys)
  last_left [] y ys = refl
  last_left (x ∷ []) y ys = two x y ys
  last_left (x ∷ z ∷ xs) y ys = two x z (xs ++ y ∷ ys) ∙ ap (λ zs. x ∷ zs) (last_left (z ∷ xs) y ys)

  one_at_least : (xs : List X) (y : X) → (z : X) × (zs : List X) × (xs ++ y ∷ [] ≡ z ∷ zs)
  one_at_least [] y = (y, [], refl)
  one_at_least (x ∷ xs) y = (x, xs ++ y ∷ [], refl)

-- ---- lines that stay

module _ {T : Type 0} where
  last_is : (ls : List (Line T)) (b : Border T) → last_border ls ≡ Some b → ls ≡ without_last ls ++ border b ∷ []
  last_is (border c ∷ []) b e = grind arith
  last_is (l ∷ m ∷ ls) b e = ap (λ ks. l ∷ ks) (last_is (m ∷ ls) b e) ∙ ap (λ ks. ks ++ border b ∷ []) (sym (two l m ls))
  last_is ls b e = cc

  -- These lines stay: they are there with others after them, or alone, and then the last of them is no border.
  abbrev Stay : List (Line T) → List (Line T) → Type 0
  Stay kept ls = ((ls ≡ kept) × (last_border kept ≡ None)) ⊎ ((l : Line T) × (more : List (Line T)) × (ls ≡ kept ++ l ∷ more))

  stay_under : (kept ls xs : List (Line T)) → Stay kept ls → Stay kept (ls ++ xs)
  stay_under kept ls [] k = subst (Stay kept) (sym (append-nil ls)) k
  stay_under kept ls (x ∷ xs) (inl (is, none)) = inr (x, xs, ap (λ ks. ks ++ x ∷ xs) is)
  stay_under kept ls (x ∷ xs) (inr (l, more, is)) = inr (l, more ++ x ∷ xs, ap (λ ks. ks ++ x ∷ xs) is ∙ append_assoc kept (l ∷ more) (x ∷ xs))

  grown : (kept ls ms more : List (Line T)) → ms ≡ ls ++ more → Stay kept ls → Stay kept ms
  grown kept ls ms more is k = subst (Stay kept) (sym is) (stay_under kept ls more k)

  begins : (ls : List (Line T)) → Stay (before_border ls) ls
  begins ls = go (last_border ls) refl
    where
      go : (o : Option (Border T)) → last_border ls ≡ o → Stay (before_border ls) ls
      go None is = let same : before_border ls ≡ ls = rw is refl in subst (λ ks. Stay ks ls) (sym same) (inl (refl, is))
      go (Some b) is = let same : before_border ls ≡ without_last ls = rw is refl in subst (λ ks. Stay ks ls) (sym same) (inr (border b, [], last_is ls b is))

  -- under a row
  stay_above : (collapses : Bool) (cells : List (Cell T)) (kept ls : List (Line T)) → Stay kept ls → Stay kept (before_border ls ++ border_lines (border_above collapses cells (last_border ls)))
  stay_above collapses cells kept ls k = go (last_border ls) refl
    where
      under : (b c : Border T) → last_border ls ≡ Some b → Stay kept ls → Stay kept (without_last ls ++ border c ∷ [])
      under b c is (inl (same, none)) = absurd (let no : ⊥ = cc in no)
      under b c is (inr (l, more, same)) =
          let (z, zs, are) = one_at_least (without_last (l ∷ more)) (border c) in
          inr (
            z,
            zs,
            ap (λ ks. without_last ks ++ border c ∷ []) same
                ∙ ap (λ ks. ks ++ border c ∷ []) (last_left kept l more)
                ∙ append_assoc kept (without_last (l ∷ more)) (border c ∷ []) ∙ ap (λ ks. kept ++ ks) are,
          )

      go : (o : Option (Border T)) → last_border ls ≡ o → Stay kept (before_border ls ++ border_lines (border_above collapses cells (last_border ls)))
      go None is = rw is (subst (Stay kept) (sym (append-nil ls)) k)
      go (Some b) is = rw is (under b _ is k)

  at_last : (kept ls : List (Line T)) → Stay kept ls → (more : List (Line T)) × (ls ≡ kept ++ more)
  at_last kept ls (inl (is, none)) = ([], is ∙ sym (append-nil kept))
  at_last kept ls (inr (l, more, is)) = (l ∷ more, is)

-- ---- calls, rows and footnotes

module _ {D A : Type 0} (columns : ℕ → Option ℕ) (decoration : Decoration D A) where
  act_keeps : (kept : List (Line (List A))) (act : Act A) (r s : Renderer D A (List A)) → after_act columns decoration act r ≡ done s → Stay kept r.lines → Stay kept s.lines
  act_keeps kept (call c) r s h k =
      let (more, is) = steps_grow columns decoration (c ∷ []) r s (run_last (after columns decoration) c r s h) in grown kept r.lines s.lines more is k
  act_keeps kept (row collapses cells) r s h k =
      let (m, flushed, seated, are, is, brings) = act_step columns decoration (row collapses cells) r s h in
      let seen = row_shown (row_to_put columns decoration collapses cells m seated are) in
      let (more, grows) = moves_grow columns (flush r ∷ []) r m (m, (refl, row_flushes columns r m flushed), refl) in
      let here = stay_above collapses seated kept m.lines (grown kept r.lines m.lines more grows k) in
      grown kept _ s.lines (lines_laid columns m seen.lines ++ border_lines_of columns m seen.next) (ap (λ (q : Renderer D A (List A)). q.lines) is ∙ row_lines columns m seen) here
  act_keeps kept (fmt_links links) r s h k =
      let is = act_step columns decoration (fmt_links links) r s h in
      let texts = flat_map (footnote_lines columns r) links in
      grown kept r.lines s.lines (lines_laid columns r texts) (ap (λ (q : Renderer D A (List A)). q.lines) is ∙ laid_lines columns texts r) k
  act_keeps kept (finalise targets) r s h k =
      let is = act_step columns decoration (finalise targets) r s h in subst (Stay kept) (sym (ap (λ (q : Renderer D A (List A)). q.lines) is)) k

  acts_keep : (kept : List (Line (List A))) (acts : List (Act A)) (r s : Renderer D A (List A)) → run (after_act columns decoration) acts r ≡ done s → Stay kept r.lines → Stay kept s.lines
  acts_keep kept [] r s h k = subst (λ (q : Renderer D A (List A)). Stay kept q.lines) (sym (one_done r s h)) k
  acts_keep kept (act ∷ acts) r s h k =
      let (m, does, others) = done_first (after_act columns decoration act r) (run (after_act columns decoration) acts) s h in
      acts_keep kept acts m s others (act_keeps kept act r m does k)

  pub lines_stay : (acts : List (Act A)) (r s : Renderer D A (List A)) → run (after_act columns decoration) acts r ≡ done s → (more : List (Line (List A))) × (s.lines ≡ before_border r.lines ++ more)
  lines_stay acts r s h = at_last (before_border r.lines) s.lines (acts_keep (before_border r.lines) acts r s h (begins r.lines))

  -- a row, and what is above it
  pub row_becomes : (collapses : Bool) (cells : List (GivenCell (List A))) (r s : Renderer D A (List A)) → after_act columns decoration (row collapses cells) r ≡ done s →
      (p : PutRow D A columns) × (after_flush columns r ≡ done p.before) × (p.collapses ≡ collapses) × (p.cells ≡ cells)
      × (s.lines ≡ lines_above columns p p.before.lines ++ lines_of_piece columns (put p))
  row_becomes collapses cells r s h =
      let (m, flushed, seated, are, is, brings) = act_step columns decoration (row collapses cells) r s h in
      let p : PutRow D A columns = row_to_put columns decoration collapses cells m seated are in (
        p,
        (live_done r.failure (after_flush columns r) m flushed).1,
        refl,
        refl,
        ap (λ (q : Renderer D A (List A)). q.lines) is ∙ row_lines columns m (row_shown p),
      )

  -- where no row comes lines only come
  act_grows : (act : Act A) (r s : Renderer D A (List A)) → rows_of (act ∷ []) ≡ [] → after_act columns decoration act r ≡ done s → (more : List (Line (List A))) × (s.lines ≡ r.lines ++ more)
  act_grows (call c) r s none h = steps_grow columns decoration (c ∷ []) r s (run_last (after columns decoration) c r s h)
  act_grows (row collapses cells) r s none h = absurd (let no : ⊥ = cc in no)
  act_grows (fmt_links links) r s none h =
      let texts = flat_map (footnote_lines columns r) links in
      (lines_laid columns r texts, ap (λ (q : Renderer D A (List A)). q.lines) (act_step columns decoration (fmt_links links) r s h) ∙ laid_lines columns texts r)
  act_grows (finalise targets) r s none h = ([], ap (λ (q : Renderer D A (List A)). q.lines) (act_step columns decoration (finalise targets) r s h) ∙ sym (append-nil r.lines))

  none_first : (act : Act A) (acts : List (Act A)) → rows_of (act ∷ acts) ≡ [] → (rows_of (act ∷ []) ≡ []) × (rows_of acts ≡ [])
  none_first act acts none = grind arith

  pub lines_grow_by : (acts : List (Act A)) (r s : Renderer D A (List A)) → rows_of acts ≡ [] →
      run (after_act columns decoration) acts r ≡ done s → (more : List (Line (List A))) × (s.lines ≡ r.lines ++ more)
  lines_grow_by [] r s none h = ([], ap (λ (q : Renderer D A (List A)). q.lines) (one_done r s h) ∙ sym (append-nil r.lines))
  lines_grow_by (act ∷ acts) r s none h =
      let (m, does, others) = done_first (after_act columns decoration act r) (run (after_act columns decoration) acts) s h in
      let (here, there) = none_first act acts none in
      let (one, first) = act_grows act r m here does in
      let (more, rest) = lines_grow_by acts m s there others in
      (one ++ more, rest ∙ ap (λ ls. ls ++ more) first ∙ append_assoc r.lines one more)
