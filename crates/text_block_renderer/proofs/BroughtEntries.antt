-- What was brought is in the lines of text, or waits.
use Rattle.text_block_renderer.proofs.Common.{◌≡◌, ℕ, zero, suc, Bool, true, false, not, if◌then◌else◌, Option, List, [], ◌∷◌, ◌++◌, filter, fold, refl, ap, sym, ◌∙◌, subst, append_assoc, append-nil}
use Rattle.text_block_renderer.proofs.Common.{arith, rules, AllZip, filter-append, flat_map-append, map-map, fold-append, Entry, character, marker_entry, Item, glyph, marker, is_kept, kept_items}
use Rattle.text_block_renderer.proofs.Common.{names_in_items, names_in_run, marker_items, marker_run, marked_after, names_after, HasMode, is_visible, without_spaces, is_visible_or_marker}
use Rattle.text_block_renderer.proofs.Common.{is_entry_to_show, ShowsEntry, is_space_item, run_of, text_items, spaces, IsNormal, AreLastOf, EndsRun, Decoration, Open, Renderer, new_renderer}
use Rattle.text_block_renderer.proofs.Common.{with_line, block_width, may_overflow, IsSound, RenderOptions, block_lines, flushed, lines_at_end, names_at_end, open_run, border, run, done, laid_entry}
use Rattle.text_block_renderer.proofs.Common.{laid_entries, text_of_lines, items_so_far, Stands, WithoutDrawnBorders, borders_drawn, DrawNone, Act, after_act, acts_come}
use Rattle.tbr_model.specs.Run.{items_of}
use Rattle.tbr_model.specs.Layout.{joined}
use Rattle.tbr_model.specs.declared.white_space.WhiteSpace.TheVariants.{Normal}
use Rattle.tbr_model.proofs.lists.Each.{each_front, each_back}
use Rattle.tbr_model.proofs.rule.Markers.{names_in_items-append, names_in_run-append}
use Rattle.tbr_tagged.proofs.SameItems.{all_zip_append}
use Rattle.tbr_renderer.proofs.FlushedBlocks.{EndsBlock}
use Rattle.text_block_renderer.proofs.DrawnBorders.{Keeps, SoundLess, less_goes_on, none_among, holds_of_all}
use Rattle.text_block_renderer.proofs.LineContents.{Looks, no_text_after, seen_line, seen_flushed}
use Rattle.text_block_renderer.proofs.LastingLines.{stay_texts}
use Rattle.text_block_renderer.proofs.EndedEntries.{Texts, acts_on}
use Rattle.text_block_renderer.proofs.VisibleCharacters.{space_unseen}

-- ---- three ways to look at items

names_of_spaces : {T : Type 0} (n : ℕ) (a : T) → names_in_items (text_items (spaces n) a) ≡ []
names_of_spaces zero a = refl
names_of_spaces (suc n) a = names_of_spaces n a

at_names : {T : Type 0} → Looks {T = T} names_in_items
at_names = record { append = names_in_items-append; nothing = refl; spaces_unseen = names_of_spaces }

-- no space passes the test
no_space_passes : {T : Type 0} (test : Item T → Bool) → ((a : T) → test (glyph 32 a) ≡ false) → (n : ℕ) (a : T) → filter test (text_items (spaces n) a) ≡ []
no_space_passes test h zero a = refl
no_space_passes test h (suc n) a = rw (h a) (no_space_passes test h n a)

at_passing : {T : Type 0} (test : Item T → Bool) → ((a : T) → test (glyph 32 a) ≡ false) → Looks (filter test)
at_passing test h = record { append = filter-append test; nothing = refl; spaces_unseen = no_space_passes test h }

pub at_shown : {T : Type 0} (columns : ℕ → Option ℕ) → Looks {T = T} (filter (is_visible_or_marker columns))
at_shown columns = at_passing (is_visible_or_marker columns) (λ a. space_unseen columns)

pub at_unspaced : {T : Type 0} → Looks {T = T} without_spaces
at_unspaced = at_passing (λ i. not (is_space_item i)) (λ a. refl)

-- ---- what stands for entries

-- Items are the visible characters and the markers of entries.
abbrev pub Show : {T : Type 0} → (ℕ → Option ℕ) → List (Item T) → List (Entry T) → Type 0
Show columns is es = AllZip (ShowsEntry (λ a b. a ≡ b)) is (filter (is_entry_to_show columns) es)

pub show_both : {T : Type 0} (columns : ℕ → Option ℕ) (is js : List (Item T)) (es fs : List (Entry T)) → Show columns is es → Show columns js fs → Show columns (is ++ js) (es ++ fs)
show_both columns is js es fs h k = grind (arith, filter-append, all_zip_append)

-- Items have the visible characters and the markers of entries, and, where these are `Normal`, their kept items.
pub record StandFor {T : Type 0} (columns : ℕ → Option ℕ) (is : List (Item T)) (es : List (Entry T)) : Type 0 where
  pub order : Show columns (filter (is_visible_or_marker columns) is) es
  pub names : names_in_items is ≡ names_in_run es
  pub kept : IsNormal es → without_spaces is ≡ kept_items columns es

-- Whoever looks sees in the new items what is seen in the old ones and then in more.
abbrev pub SeenAfter : {T : Type 0} → List (Item T) → List (Item T) → List (Item T) → Type 1
SeenAfter {T} old more new = (Y : Type 0) (look : List (Item T) → List Y) → Looks look → look new ≡ look old ++ look more

names_of_markers : (T : Type 0) (names : List (List ℕ)) → names_in_items (let is : List (Item T) = marker_items names in is) ≡ names
names_of_markers T [] = refl
names_of_markers T (name ∷ names) = ap (λ ns. name ∷ ns) (names_of_markers T names)

module _ {T : Type 0} (columns : ℕ → Option ℕ) where
  -- one after the other
  pub stand_after : (old more new : List (Item T)) (es fs : List (Entry T)) → SeenAfter old more new → StandFor columns old es → StandFor columns more fs → StandFor columns new (es ++ fs)
  stand_after old more new es fs seen h k = record {
    order = subst (λ is. Show columns is (es ++ fs)) (sym (seen (Item T) (filter (is_visible_or_marker columns)) (at_shown columns)))
        (show_both columns (filter (is_visible_or_marker columns) old) (filter (is_visible_or_marker columns) more) es fs h.order k.order);
    names = seen (List ℕ) names_in_items at_names ∙ ap (λ ns. ns ++ names_in_items more) h.names ∙ ap (λ ns. names_in_run es ++ ns) k.names ∙ sym (names_in_run-append es fs);
    kept = λ normal.
        seen (Item T) without_spaces at_unspaced ∙ ap (λ is. is ++ without_spaces more) (h.kept (each_front (HasMode Normal) es fs normal))
        ∙ ap (λ is. kept_items columns es ++ is) (k.kept (each_back (HasMode Normal) es fs normal)) ∙ sym (flat_map-append (items_of columns) es fs);
  }

  -- ---- markers alone

  markers_pass : (test : Item T → Bool) → ((name : List ℕ) → test (marker name) ≡ true) → (names : List (List ℕ)) → filter test (let is : List (Item T) = marker_items names in is) ≡ marker_items names
  markers_pass test h [] = refl
  markers_pass test h (name ∷ names) = rw (h name) (ap (λ (is : List (Item T)). marker name ∷ is) (markers_pass test h names))

  pub shown_markers : (names : List (List ℕ)) → filter (is_visible_or_marker columns) (let is : List (Item T) = marker_items names in is) ≡ marker_items names
  shown_markers = markers_pass (is_visible_or_marker columns) (λ name. refl)

  pub shown_before : (is : List (Item T)) (names : List (List ℕ)) → filter (is_visible_or_marker columns) (is ++ marker_items names) ≡ filter (is_visible_or_marker columns) is ++ marker_items names
  shown_before is names = filter-append (is_visible_or_marker columns) is (marker_items names) ∙ ap (λ js. filter (is_visible_or_marker columns) is ++ js) (shown_markers names)

  pub unspaced_before : (is : List (Item T)) (names : List (List ℕ)) → without_spaces (is ++ marker_items names) ≡ without_spaces is ++ marker_items names
  unspaced_before is names = filter-append (λ i. not (is_space_item i)) is (marker_items names) ∙ ap (λ js. without_spaces is ++ js) (markers_pass (λ i. not (is_space_item i)) (λ name. refl) names)

  pub names_before : (is : List (Item T)) (names : List (List ℕ)) → names_in_items (is ++ marker_items names) ≡ names_in_items is ++ names
  names_before is names = names_in_items-append is (marker_items names) ∙ ap (λ ns. names_in_items is ++ ns) (names_of_markers T names)

  -- laid items stand for themselves
  pub laid_stand : (is : List (Item T)) → StandFor columns is (laid_entries is)
  laid_stand [] = grind arith
  laid_stand (marker name ∷ is) = search (rules, laid_stand is)
  laid_stand (glyph c a ∷ is) = grind (arith, laid_stand is)

  -- markers stand for a run of these markers alone
  pub markers_stand : (names : List (List ℕ)) → StandFor columns (marker_items names) (let es : List (Entry T) = marker_run names in es)
  markers_stand names = subst (StandFor columns (marker_items names)) (map-map laid_entry marker names) (laid_stand (marker_items names))

  -- the lines of a run, and the markers that are on none of them
  pub run_stands : (width : ℕ) (may_overflow : Bool) (run : List (Entry T)) (texts : List (List (Item T)))
      (names : List (List ℕ)) → EndsRun columns width may_overflow run texts names →
      StandFor columns (joined texts ++ marker_items names) run
  run_stands width may_overflow run texts names ends = grind (arith, shown_before, names_before, unspaced_before)

-- ---- which markers wait

module _ {T : Type 0} (test : ℕ → Bool) where
  -- the markers after the last character that passes, of items
  abbrev item_after : List (List ℕ) → Item T → List (List ℕ)
  item_after names (glyph c a) = if test c then [] else names
  item_after names (marker name) = names ++ name ∷ []

  markers_after : (names more : List (List ℕ)) (is : List (Item T)) → is ≡ marker_items more → fold item_after names is ≡ names ++ more
  markers_after names [] is e = ap (fold item_after names) e ∙ sym (append-nil names)
  markers_after names (name ∷ more) is e = ap (fold item_after names) e ∙ markers_after (names ++ name ∷ []) more (marker_items more) refl ∙ append_assoc names (name ∷ []) more

  -- markers at the end of items are the last of those
  last_after : (is : List (Item T)) (names all : List (List ℕ)) → fold item_after [] (is ++ marker_items names) ≡ all → AreLastOf names all
  last_after is names all e = (fold item_after [] is, sym (markers_after (fold item_after [] is) names (marker_items names) refl) ∙ sym (fold-append item_after [] is (marker_items names)) ∙ e)

  after_alike : (names : List (List ℕ)) (is : List (Item T)) (es : List (Entry T)) → AllZip (ShowsEntry (λ a b. a ≡ b)) is es → fold item_after names is ≡ fold (marked_after test) names es
  after_alike names [] [] h = refl
  after_alike names (glyph c x ∷ is) (character d a b m ∷ es) h = rw (h.0.0) (after_alike (if test d then [] else names) is es h.1)
  after_alike names (marker name ∷ is) (marker_entry other ∷ es) h = rw (h.0) (after_alike (names ++ other ∷ []) is es h.1)
  after_alike names (i ∷ is) (e ∷ es) h = absurd h.0
  after_alike names is es h = absurd h

module _ {T : Type 0} (columns : ℕ → Option ℕ) where
  -- what isn't shown doesn't count
  after_shown : (names : List (List ℕ)) (es : List (Entry T)) →
      fold (marked_after (is_visible columns)) names (filter (is_entry_to_show columns) es) ≡ fold
      (marked_after (is_visible columns)) names es
  after_shown names [] = refl
  after_shown names (marker_entry name ∷ es) = after_shown (names ++ name ∷ []) es
  after_shown names (character c a b m ∷ es) = grind (arith, after_shown (if is_visible columns c then [] else names) es, after_shown names es)

  after_kept : (names : List (List ℕ)) (es : List (Entry T)) → fold (item_after (is_kept columns)) names (kept_items columns es) ≡ fold (marked_after (is_kept columns)) names es
  after_kept names [] = refl
  after_kept names (marker_entry name ∷ es) = after_kept (names ++ name ∷ []) es
  after_kept names (character c a b m ∷ es) = grind (arith, after_kept (if is_kept columns c then [] else names) es, after_kept names es)

  -- The markers at the end of items come after the last visible character that these show, and the last kept one.
  pub last_shown : (shown : List (Item T)) (names : List (List ℕ)) (es : List (Entry T)) →
      AllZip (ShowsEntry (λ a b. a ≡ b)) (shown ++ marker_items names) (filter (is_entry_to_show columns) es) →
      AreLastOf names (names_after (is_visible columns) es)
  last_shown shown names es h =
      last_after (is_visible columns) shown names (names_after (is_visible columns) es)
      (after_alike (is_visible columns) [] (shown ++ marker_items names) (filter (is_entry_to_show columns) es) h
      ∙ after_shown [] es)

  pub waits_after : (is : List (Item T)) (names : List (List ℕ)) (es : List (Entry T)) → StandFor columns (is ++ marker_items names) es → AreLastOf names (names_after (is_visible columns) es)
  waits_after is names es h =
      last_shown (filter (is_visible_or_marker columns) is) names es
      (subst (λ js. AllZip (ShowsEntry (λ a b. a ≡ b)) js (filter (is_entry_to_show columns) es))
      (shown_before columns is names) h.order)

  pub waits_after_kept : (is : List (Item T)) (names : List (List ℕ)) (es : List (Entry T)) →
      StandFor columns (is ++ marker_items names) es → IsNormal es → AreLastOf names (names_after (is_kept columns) es)
  waits_after_kept is names es h normal =
      last_after (is_kept columns) (without_spaces is) names (names_after (is_kept columns) es)
      (ap (fold (item_after (is_kept columns)) []) (sym (unspaced_before columns is names) ∙ h.kept normal) ∙ after_kept [] es)

-- ---- acts

module _ {D A : Type 0} (columns : ℕ → Option ℕ) where
  abbrev InLines : Renderer D A (List A) → List (Entry (List A)) → Type 0
  InLines r es = StandFor columns (items_so_far r) es

  stands : (r : Renderer D A (List A)) (ended es : List (Entry (List A))) → ended ++ open_run r.block ≡ es → InLines r ended → Stands columns r es
  stands r ended es whole h = record {
    ended = ended;
    whole = whole;
    order = h.order;
    markers = sym (names_before columns (text_of_lines r.lines) r.waiting) ∙ h.names;
    waits = waits_after columns (text_of_lines r.lines) r.waiting ended h;
    kept = h.kept;
    waits_kept = waits_after_kept columns (text_of_lines r.lines) r.waiting ended h;
  }

  in_lines : (r : Renderer D A (List A)) (es : List (Entry (List A))) → (h : Stands columns r es) → InLines r h.ended
  in_lines r es h = record { order = h.order; names = names_before columns (text_of_lines r.lines) r.waiting ∙ h.markers; kept = h.kept }

  pub new_stands : (width : ℕ) (options : RenderOptions) (decorator : D) → Stands columns (new_renderer {D = D} {A = A} width options decorator) []
  new_stands width options decorator = grind (arith, stands)

  pub end_stands : (r s : Renderer D A (List A)) (b : Open (List A)) (es : List (Entry (List A))) → EndsBlock columns r b s → IsSound columns r → InLines r es → InLines s (es ++ run_of b.events)
  end_stands r s b es h sound k =
      let texts = lines_at_end columns r b in
      let names = names_at_end columns r b in
      let after : Renderer D A (List A) = flushed columns r (block_lines columns r b texts) names in
      subst (λ (q : Renderer D A (List A)). InLines q (es ++ run_of b.events)) (sym h.is)
      (stand_after columns (items_so_far r) (joined texts ++ marker_items names) (items_so_far after) es (run_of b.events) (λ Y look looks. seen_flushed look looks columns r b texts names) k
      (run_stands columns (block_width r) (may_overflow r) (run_of b.events) texts names (h.ends sound)))

  -- the same text, and the same markers wait
  same_stand : (r s : Renderer D A (List A)) (es : List (Entry (List A))) → text_of_lines s.lines ≡ text_of_lines r.lines → s.waiting ≡ r.waiting → InLines r es → InLines s es
  same_stand r s es lines waiting k = subst (λ is. StandFor columns is es) (sym (ap (λ is. is ++ marker_items s.waiting) lines ∙ ap (λ names. text_of_lines r.lines ++ marker_items names) waiting)) k

  stands_on : Keeps columns InLines
  stands_on = record {
    flushed = end_stands;
    laid = λ r t es k. stand_after columns (items_so_far r) t (items_so_far (with_line columns r t)) es (laid_entries t) (λ Y look looks. seen_line look looks columns r t) k (laid_stand columns t);
    ruled = λ r b es k. same_stand r (record r { lines = r.lines ++ border b ∷ [] }) es (no_text_after r.lines b) refl k;
    stays = λ r s es stay waiting k. same_stand r s es (stay_texts r.lines s.lines stay) waiting k;
  }

  pub acts_stand : (decoration : Decoration D A) (acts : List (Act A)) (r s : Renderer D A (List A)) (borders : Texts A)
      (before : List (Entry (List A))) → IsSound columns r → run (after_act columns decoration) acts r ≡ done s →
      WithoutDrawnBorders borders (λ q. Stands columns q before) r → WithoutDrawnBorders
      (borders ++ borders_drawn columns decoration acts r)
      (λ q. Stands columns q (acts_come columns decoration acts r before)) s
  acts_stand decoration acts r s borders before sound h (rest, among, k) =
      let start : InLines (record r { lines = rest }) k.ended = in_lines (record r { lines = rest }) before k in
      let (last, whole, (still, (left, there, all))) =
      acts_on columns (SoundLess columns InLines stands_on) (less_goes_on columns InLines stands_on) decoration acts
      r s before borders h (k.ended, k.whole, (sound, (rest, among, start))) in
      (left, there, stands (record s { lines = left }) last (acts_come columns decoration acts r before) whole all)

  pub new_acts_stand : (decoration : Decoration D A) (width : ℕ) (options : RenderOptions) (decorator : D)
      (acts : List (Act A)) (s : Renderer D A (List A)) →
      (let r : Renderer D A (List A) = new_renderer width options decorator in
      IsSound columns r → run (after_act columns decoration) acts r ≡ done s →
      WithoutDrawnBorders (borders_drawn columns decoration acts r)
      (λ q. Stands columns q (acts_come columns decoration acts r [])) s)
  new_acts_stand decoration width options decorator acts s sound h =
      acts_stand decoration acts (new_renderer width options decorator) s [] [] sound h ([], none_among [], new_stands width options decorator)

  pub acts_stand_all : (decoration : Decoration D A) (acts : List (Act A)) (r s : Renderer D A (List A))
      (before : List (Entry (List A))) → IsSound columns r → DrawNone columns decoration acts r →
      run (after_act columns decoration) acts r ≡ done s →
      Stands columns r before → Stands columns s (acts_come columns decoration acts r before)
  acts_stand_all decoration acts r s before sound none h k =
      holds_of_all columns decoration (λ q. Stands columns q (acts_come columns decoration acts r before)) acts r s h
      none (acts_stand decoration acts r s [] before sound h (r.lines, none_among r.lines, k))
