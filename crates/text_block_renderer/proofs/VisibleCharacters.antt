-- Visible characters are there once.
use Rattle.text_block_renderer.proofs.Common.{◌≡◌, ℕ, zero, suc, false, Option, None, List, [], ◌∷◌, ◌++◌, filter, fold, map, refl, ap, sym, ◌∙◌, subst, append-nil, arith, AllZip, run_of, Entry, Item}
use Rattle.text_block_renderer.proofs.Common.{glyph, marker, marker_items, glyphs_of, is_visible, is_visible_entry, IsShown, visible_glyphs, visible_entries, filter-append, text_items, spaces, Line}
use Rattle.text_block_renderer.proofs.Common.{border, Open, Renderer, RenderOptions, new_renderer, with_line, open_run, block_width, IsSound, block_lines, lines_at_end, run, append_cancel_right}
use Rattle.text_block_renderer.proofs.Common.{handed_out, done, Decoration, laid_entries, text_of_lines, Call, Brings, Shows, AreDrawnAmong, WithoutDrawnBorders, borders_drawn, DrawNone, Act, call}
use Rattle.text_block_renderer.proofs.Common.{after_act, acts_come, items_so_far}
use Rattle.std.proofs.Math.Bool.{and-false}
use Rattle.tbr_model.specs.Codes.{space_character}
use Rattle.tbr_model.specs.Layout.{joined}
use Rattle.tbr_model.proofs.words.Items.{glyphs_of-append}
use Rattle.tbr_tagged.proofs.SameItems.{all_zip_append}
use Rattle.tbr_renderer.proofs.FlushedBlocks.{EndsBlock}
use Rattle.tbr_renderer.proofs.CallParts.{handed_then}
use Rattle.text_block_renderer.proofs.ActSteps.{calls_come}
use Rattle.tbr_renderer.proofs.FlushedBlocks.{flushed_none}
use Rattle.text_block_renderer.proofs.DrawnBorders.{Keeps, SoundLess, less_goes_on, none_among, all_are_left, holds_of_all}
use Rattle.text_block_renderer.proofs.LineContents.{Looks, unpadded, no_text_after, seen_line, seen_texts}
use Rattle.text_block_renderer.proofs.LastingLines.{stay_texts}
use Rattle.text_block_renderer.proofs.EndedEntries.{Texts, flushed_on, acts_on}

-- ---- items and entries

pub space_unseen : (columns : ℕ → Option ℕ) → is_visible columns space_character ≡ false
space_unseen columns = and-false _

module _ {T : Type 0} (columns : ℕ → Option ℕ) where
  pub glyphs-append : (is js : List (Item T)) → visible_glyphs columns (is ++ js) ≡ visible_glyphs columns is ++ visible_glyphs columns js
  glyphs-append is js = ap (filter (λ g. is_visible columns g.0)) (glyphs_of-append is js) ∙ filter-append (λ (g : ℕ × T). is_visible columns g.0) (glyphs_of is) (glyphs_of js)

  entries-append : (es fs : List (Entry T)) → visible_entries columns (es ++ fs) ≡ visible_entries columns es ++ visible_entries columns fs
  entries-append es fs = filter-append (is_visible_entry columns) es fs

  spaces_unseen : (n : ℕ) (a : T) → visible_glyphs columns (text_items (spaces n) a) ≡ []
  spaces_unseen zero a = refl
  spaces_unseen (suc n) a = rw (space_unseen columns) (spaces_unseen n a)

  markers_unseen : (names : List (List ℕ)) (is : List (Item T)) → is ≡ marker_items names → visible_glyphs columns is ≡ []
  markers_unseen [] is e = ap (visible_glyphs columns) e
  markers_unseen (name ∷ names) is e = ap (visible_glyphs columns) e ∙ markers_unseen names (marker_items names) refl

  at_visible : Looks (visible_glyphs {A = T} columns)
  at_visible = record { append = glyphs-append; nothing = refl; spaces_unseen = spaces_unseen }

  -- laid items stand for themselves
  laid_shown : (is : List (Item T)) → AllZip (IsShown (λ a b. a ≡ b)) (visible_glyphs columns is) (visible_entries columns (laid_entries is))
  laid_shown [] = tt
  laid_shown (marker name ∷ is) = laid_shown is
  laid_shown (glyph c a ∷ is) = grind (arith, laid_shown is)

-- ---- lines

module _ {D A : Type 0} (columns : ℕ → Option ℕ) where
  on_lines : (r : Renderer D A (List A)) → visible_glyphs columns (items_so_far r) ≡ visible_glyphs columns (text_of_lines r.lines)
  on_lines r = grind (arith, glyphs-append, markers_unseen, append-nil)

  shown_line : (r : Renderer D A (List A)) (t : List (Item (List A))) →
      visible_glyphs columns (text_of_lines (with_line columns r t).lines) ≡ visible_glyphs columns
      (text_of_lines r.lines) ++ visible_glyphs columns t
  shown_line r t = sym (on_lines (with_line columns r t)) ∙ seen_line (visible_glyphs columns) (at_visible columns) columns r t ∙ ap (λ gs. gs ++ visible_glyphs columns t) (on_lines r)

  pub shown_texts : (ts : List (List (Item (List A)))) (r : Renderer D A (List A)) →
      visible_glyphs columns (text_of_lines (fold (with_line columns) r ts).lines) ≡ visible_glyphs columns
      (text_of_lines r.lines) ++ visible_glyphs columns (joined ts)
  shown_texts ts r =
      sym (on_lines (fold (with_line columns) r ts))
      ∙ seen_texts (visible_glyphs columns) (at_visible columns) columns ts r
      ∙ ap (λ gs. gs ++ visible_glyphs columns (joined ts)) (on_lines r)

  -- ---- acts

  abbrev InLines : Renderer D A (List A) → List (Entry (List A)) → Type 0
  InLines r es = AllZip (IsShown (λ x y. x ≡ y)) (visible_glyphs columns (text_of_lines r.lines)) (visible_entries columns es)

  shows_more : (r s : Renderer D A (List A)) (is : List (Item (List A))) (es more : List (Entry (List A))) →
      visible_glyphs columns (text_of_lines s.lines) ≡ visible_glyphs columns (text_of_lines r.lines) ++ visible_glyphs
      columns is →
      AllZip (IsShown (λ x y. x ≡ y)) (visible_glyphs columns is) (visible_entries columns more) → InLines r es → InLines s (es ++ more)
  shows_more r s is es more lines shown k =
      let old = visible_glyphs columns (text_of_lines r.lines) in
      subst (λ gs. AllZip (IsShown (λ x y. x ≡ y)) gs (visible_entries columns (es ++ more))) (sym lines)
      (subst (AllZip (IsShown (λ x y. x ≡ y)) (old ++ visible_glyphs columns is)) (sym (entries-append columns es more))
      (all_zip_append (IsShown (λ x y. x ≡ y)) old (visible_glyphs columns is) (visible_entries columns es) (visible_entries columns more) k shown))

  end_shows : (r s : Renderer D A (List A)) (b : Open (List A)) (es : List (Entry (List A))) → EndsBlock columns r b s → IsSound columns r → InLines r es → InLines s (es ++ run_of b.events)
  end_shows r s b es h sound k =
      let texts = lines_at_end columns r b in
      let lines : visible_glyphs columns (text_of_lines s.lines) ≡ visible_glyphs columns (text_of_lines r.lines) ++ visible_glyphs columns (joined texts) =
      ap (λ (q : Renderer D A (List A)). visible_glyphs columns (text_of_lines q.lines)) h.is ∙ shown_texts (block_lines columns r b texts) (record r { block = None })
      ∙ ap (λ gs. visible_glyphs columns (text_of_lines r.lines) ++ gs) (unpadded (visible_glyphs columns) (at_visible columns) columns b.padding (block_width r) texts) in
      shows_more r s (joined texts) es (run_of b.events) lines (h.ends sound).shown.visible k

  same_shows : (r s : Renderer D A (List A)) (es : List (Entry (List A))) → text_of_lines s.lines ≡ text_of_lines r.lines → InLines r es → InLines s es
  same_shows r s es lines k = subst (λ is. AllZip (IsShown (λ x y. x ≡ y)) (visible_glyphs columns is) (visible_entries columns es)) (sym lines) k

  shows_on : Keeps columns InLines
  shows_on = record {
    flushed = end_shows;
    laid = λ r t es k. shows_more r (with_line columns r t) t es (laid_entries t) (shown_line r t) (laid_shown columns t) k;
    ruled = λ r b es k. same_shows r (record r { lines = r.lines ++ border b ∷ [] }) es (no_text_after r.lines b) k;
    stays = λ r s es stay waiting k. same_shows r s es (stay_texts r.lines s.lines stay) k;
  }

  abbrev ShownLess : Renderer D A (List A) → List (Entry (List A)) → Texts A → Type 0
  ShownLess = SoundLess columns InLines shows_on

  -- where the run that is open is known
  ended_are : (r : Renderer D A (List A)) (ended es : List (Entry (List A))) →
      visible_entries columns (es ++ open_run r.block) ≡ visible_entries columns (ended ++ open_run r.block) →
      visible_entries columns es ≡ visible_entries columns ended
  ended_are r ended es same =
      let open_one = open_run r.block in
      append_cancel_right (visible_entries columns es) (visible_entries columns ended)
      (visible_entries columns open_one)
      (sym (entries-append columns es open_one) ∙ same ∙ entries-append columns ended open_one)

  pub acts_show : (decoration : Decoration D A) (acts : List (Act A)) (r s : Renderer D A (List A)) (borders : Texts A)
      (ended : List (Entry (List A))) → IsSound columns r → run (after_act columns decoration) acts r ≡ done s →
      (let before = ended ++ open_run r.block in WithoutDrawnBorders borders (λ q. Shows columns q before) r →
      WithoutDrawnBorders (borders ++ borders_drawn columns decoration acts r) (λ q. Shows columns q (acts_come columns decoration acts r before)) s)
  acts_show decoration acts r s borders ended sound h (rest, among, k) =
      let before = ended ++ open_run r.block in
      let shown : AllZip (IsShown (λ x y. x ≡ y)) (visible_glyphs columns (text_of_lines rest)) (visible_entries columns ended) =
      subst (AllZip (IsShown (λ x y. x ≡ y)) (visible_glyphs columns (text_of_lines rest))) (ended_are r ended k.ended k.whole) k.shown in
      let (last, whole, (still, (left, there, all))) =
      acts_on columns ShownLess (less_goes_on columns InLines shows_on) decoration acts r s before borders h
      (ended, refl, (sound, (rest, among, shown))) in
      (left, there, record { ended = last; shown = all; whole = ap (visible_entries columns) whole })

  pub new_acts_show : (decoration : Decoration D A) (width : ℕ) (options : RenderOptions) (decorator : D)
      (acts : List (Act A)) (s : Renderer D A (List A)) →
      (let r : Renderer D A (List A) = new_renderer width options decorator in
      IsSound columns r → run (after_act columns decoration) acts r ≡ done s →
      WithoutDrawnBorders (borders_drawn columns decoration acts r)
      (λ q. Shows columns q (acts_come columns decoration acts r [])) s)
  new_acts_show decoration width options decorator acts s sound h =
      acts_show decoration acts (new_renderer width options decorator) s [] [] sound h ([], none_among [], record { ended = []; shown = tt; whole = refl })

  pub acts_show_all : (decoration : Decoration D A) (acts : List (Act A)) (r s : Renderer D A (List A))
      (ended : List (Entry (List A))) → IsSound columns r → DrawNone columns decoration acts r →
      run (after_act columns decoration) acts r ≡ done s →
      (let before = ended ++ open_run r.block in Shows columns r before → Shows columns s (acts_come columns decoration acts r before))
  acts_show_all decoration acts r s ended sound none h k =
      let before = ended ++ open_run r.block in
      holds_of_all columns decoration (λ q. Shows columns q (acts_come columns decoration acts r before)) acts r s h
      none (acts_show decoration acts r s [] ended sound h (r.lines, none_among r.lines, k))

  -- calls alone come after whatever was shown before
  come_after : (decoration : Decoration D A) (calls : List (Call (List A))) (r s : Renderer D A (List A)) (ended before es : List (Entry (List A))) → Brings columns decoration calls r es s →
      visible_entries columns (ended ++ open_run r.block) ≡ visible_entries columns before →
      visible_entries columns (acts_come columns decoration (map call calls) r (ended ++ open_run r.block)) ≡ visible_entries columns (before ++ es)
  come_after decoration calls r s ended before es h same =
      let all = ended ++ open_run r.block in
      ap (visible_entries columns) ((calls_come columns decoration calls r s all h.0).1 ∙ ap (λ fs. all ++ fs) (sym h.1)) ∙ entries-append columns all es
      ∙ ap (λ fs. fs ++ visible_entries columns es) same ∙ sym (entries-append columns before es)

  pub calls_show : (decoration : Decoration D A) (calls : List (Call (List A))) (r s : Renderer D A (List A))
      (borders : Texts A) (before es : List (Entry (List A))) → IsSound columns r →
      Brings columns decoration calls r es s →
      WithoutDrawnBorders borders (λ q. Shows columns q before) r → WithoutDrawnBorders (borders ++ borders_drawn columns decoration (map call calls) r) (λ q. Shows columns q (before ++ es)) s
  calls_show decoration calls r s borders before es sound h (rest, among, k) =
      let start : Shows columns (record r { lines = rest }) (k.ended ++ open_run r.block) = record { ended = k.ended; shown = k.shown; whole = refl } in
      let (left, there, all) = acts_show decoration (map call calls) r s borders k.ended sound (calls_come columns decoration calls r s [] h.0).0 (rest, among, start) in
      (left, there, record { ended = all.ended; shown = all.shown; whole = all.whole ∙ come_after decoration calls r s k.ended before es h k.whole })

  pub calls_show_all : (decoration : Decoration D A) (calls : List (Call (List A))) (r s : Renderer D A (List A))
      (before es : List (Entry (List A))) → IsSound columns r → DrawNone columns decoration (map call calls) r →
      Brings columns decoration calls r es s → Shows columns r before → Shows columns s (before ++ es)
  calls_show_all decoration calls r s before es sound none h k =
      holds_of_all columns decoration (λ q. Shows columns q (before ++ es)) (map call calls) r s
      (calls_come columns decoration calls r s [] h.0).0 none
      (calls_show decoration calls r s [] before es sound h (r.lines, none_among r.lines, k))

  -- ---- lines that are handed out

  pub handed_out_less : (r : Renderer D A (List A)) (borders : Texts A) (es : List (Entry (List A)))
      (lines : List (Line (List A))) → IsSound columns r → WithoutDrawnBorders borders (λ q. Shows columns q es) r →
      handed_out columns r ≡ done lines →
      (rest : List (Line (List A))) × AreDrawnAmong borders lines rest × AllZip (IsShown (λ a b. a ≡ b)) (visible_glyphs columns (text_of_lines rest)) (visible_entries columns es)
  handed_out_less r borders es lines sound (rest, among, k) h =
      let (s, flushes, is) = handed_then columns r lines h in
      let all = k.ended ++ open_run r.block in
      let (last, whole, (still, (left, there, shown))) =
      flushed_on columns ShownLess (less_goes_on columns InLines shows_on) r s all borders flushes
      (k.ended, refl, (sound, (rest, among, k.shown))) in
      let same : last ≡ all = sym (append-nil last) ∙ ap (λ (o : Option (Open (List A))). last ++ open_run o) (sym (flushed_none columns r s flushes)) ∙ whole in (
        left,
        subst (λ ls. AreDrawnAmong borders ls left) (sym is) there,
        subst (AllZip (IsShown (λ a b. a ≡ b)) (visible_glyphs columns (text_of_lines left))) (ap (visible_entries columns) same ∙ k.whole) shown,
      )

  pub all_handed_out : (r : Renderer D A (List A)) (es : List (Entry (List A))) (lines : List (Line (List A))) → IsSound columns r → Shows columns r es → handed_out columns r ≡ done lines →
      AllZip (IsShown (λ a b. a ≡ b)) (visible_glyphs columns (text_of_lines lines)) (visible_entries columns es)
  all_handed_out r es lines sound k h =
      let (rest, among, shown) = handed_out_less r [] es lines sound (r.lines, none_among r.lines, k) h in
      subst (λ ls. AllZip (IsShown (λ a b. a ≡ b)) (visible_glyphs columns (text_of_lines ls)) (visible_entries columns es)) (all_are_left lines rest among) shown
