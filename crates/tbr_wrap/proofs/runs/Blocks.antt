-- What each change leaves of a block, and where it allows its lines.
use Rattle.tbr_wrap.proofs.Common.{◌≡◌, ℕ, if◌then◌else◌, ◌==◌, ◌||◌, length, Bool, true, false, Option, None, Some, List, [], ◌∷◌, ◌++◌, map, fold, chars, refl, ap, sym, ◌∙◌, subst, arith}
use Rattle.tbr_wrap.proofs.Common.{append_assoc, append-nil, le-leb, ne_eqb, inl, and_parts, length-map, fold-append, chars-nil, Each, WhiteSpace, Entry, character, Item, marker, has_character}
use Rattle.tbr_wrap.proofs.Common.{names_in_items, Event, call, entry, Progress, at_start, step, enter, waiting, lines_fit, waiting_none, marker_items_alone, Element, done, refused, FitsBlock}
use Rattle.tbr_wrap.proofs.Common.{ShowsText, is_some_list, text_entries, Block, progress_of, lines, left, allows, grown, settled, settings_of, text_events, flushed, loose_names, line_handed_out}
use Rattle.tbr_wrap.proofs.Common.{HandsOutFirst, without_loose, HasGrown, text_changes, block_of, KeepsLimits, RunChange}
use Rattle.std.proofs.Common.{leb-true}
use Rattle.tbr_model.specs.TakenOut.{without_markers}
use Rattle.tbr_model.proofs.rule.DoneLines.{step_adds}
use Rattle.tbr_model.proofs.rule.Markers.{markers_lead}
use Rattle.tbr_model.proofs.rule.TakenOutMarkers.{taken_events, without_no_event}
use Rattle.tbr_tagged.specs.declared.error.Error.TheVariants as E
use Rattle.tbr_wrap.proofs.runs.LinesLeft.{handed_keeps}
use Rattle.tbr_wrap.specs.Story.{changed, story}
use Rattle.tbr_wrap.specs.Held.{padding_tag}
use Rattle.tbr_wrap.specs.declared.block.WrappedBlock.TheInside.{Inside}
use Rattle.tbr_wrap.specs.declared.run_change.RunChange.TheVariants.{HandedOut}

no_chars : (rest : List ℕ) → (length rest == 0) ≡ true → chars rest ≡ []
no_chars [] e = chars-nil
no_chars (c ∷ cs) e = absurd (let f : true ≡ false = sym e ∙ ne_eqb (length (c ∷ cs)) 0 (λ z. omega (arith, z)) in cc)

module _ {A : Type 0} (columns : ℕ → Option ℕ) where
  -- ---- settings

  one_keeps : (s : Block A) (x : RunChange × A × A) → ((changed columns s x).failure ≡ s.failure) × (settings_of (changed columns s x) ≡ settings_of s)
  one_keeps s (HandedOut, a, b) = let keeps = handed_keeps s in (keeps.0, keeps.1)
  one_keeps s (change, a, b) = (refl, refl)

  all_keep : (changes : List (RunChange × A × A)) (s : Block A) → ((fold (changed columns) s changes).failure ≡ s.failure) × (settings_of (fold (changed columns) s changes) ≡ settings_of s)
  all_keep [] s = (refl, refl)
  all_keep (x ∷ changes) s = let one = one_keeps s x in let more = all_keep changes (changed columns s x) in (more.0 ∙ one.0, more.1 ∙ one.1)

  -- ---- what a contract sees of the fields

  module _ {W : Type 0} where
    -- where a block hasn't failed, that is what its changes have led to
    seen_is : (r : Inside A W) → r.failure ≡ None → block_of columns r ≡ story columns r.wrapper.value.lines.width r.wrapper.value.lines.may_overflow (padding_tag r) r.changes.items
    seen_is r live = grind (arith, all_keep)

    -- more changes lead on
    pub led_on : (r t : Inside A W) (new : List (RunChange × A × A)) →
        KeepsLimits r.wrapper.value.lines t.wrapper.value.lines → padding_tag t ≡ padding_tag r →
        t.changes.items ≡ r.changes.items ++ new → r.failure ≡ None → t.failure ≡ None →
        block_of columns t ≡ fold (changed columns) (block_of columns r) new
    led_on r t new same pads more live still = grind (arith, seen_is, fold-append)

    pub settings_kept : (r t : Inside A W) → KeepsLimits r.wrapper.value.lines t.wrapper.value.lines →
        padding_tag t ≡ padding_tag r → settings_of (block_of columns t) ≡ settings_of (block_of columns r)
    settings_kept r t same pads = λ i. record { width = same.width i; may_overflow = same.may_overflow i; padding = pads i }

  pub grown_more : (s : Block A) (es fs : List (Event A)) → grown (grown s es) fs ≡ grown s (es ++ fs)
  grown_more s es fs = ap (λ (gs : List (Event A)). record s { events = gs }) (append_assoc s.events es fs)

  pub text_grown : (s : Block A) (cs : List ℕ) (a b : A) (mode : WhiteSpace) → fold (changed columns) s (text_changes cs a b mode) ≡ grown s (map entry (text_entries cs a b mode))
  text_grown s [] a b mode = ap (λ (gs : List (Event A)). record s { events = gs }) (sym (append-nil s.events))
  text_grown s (x ∷ cs) a b mode =
      let e : Event A = entry (character x a b mode) in
      text_grown (grown s (e ∷ [])) cs a b mode ∙ grown_more s (e ∷ []) (map entry (text_entries cs a b mode))

  -- ---- where the rule is

  -- events only add lines
  pub steps_add : (width : ℕ) (es : List (Event A)) (p : Progress A) → (more : List (List (Item A))) × ((fold (step columns width) p es).laid.done ≡ p.laid.done ++ more)
  steps_add width [] p = ([], sym (append-nil p.laid.done))
  steps_add width (e ∷ es) p =
      let one = step_adds columns width p e in
      let rest = steps_add width es (step columns width p e) in
      (one.0 ++ rest.0, rest.1 ∙ ap (λ ls. ls ++ rest.0) one.1 ∙ append_assoc p.laid.done one.0 rest.0)

  pub progress_grown : (s : Block A) (es : List (Event A)) → progress_of columns (grown s es) ≡ fold (step columns s.width) (progress_of columns s) es
  progress_grown s es = fold-append (step columns s.width) at_start s.events es

  pub entries_entered : (width : ℕ) (es : List (Entry A)) (p : Progress A) → fold (step columns width) p (map entry es) ≡ fold (enter columns width) p es
  entries_entered width [] p = refl
  entries_entered width (e ∷ es) p = entries_entered width es (enter columns width p e)

  pub progress_flushed : (s : Block A) → progress_of columns (flushed columns s) ≡ record at_start { word = waiting columns s.width (progress_of columns s) }
  progress_flushed s = grind (arith, marker_items_alone, waiting_none, markers_lead)

  -- the word's markers are taken out
  loose_count : (word : List (Item A)) → has_character word ≡ false → length (loose_names word) ≡ length word
  loose_count word none =
      let names : loose_names word ≡ names_in_items word = rw none refl in
      ap length names ∙ sym (ap length (marker_items_alone word none) ∙ length-map (names_in_items word) marker)

  pub progress_taken : (s : Block A) → has_character (progress_of columns s).word ≡ false → progress_of columns (without_loose columns s) ≡ record (progress_of columns s) { word = [] }
  progress_taken s none =
      let word : List (Item A) = (progress_of columns s).word in
      (λ i. progress_of columns (record s { events = without_markers (loose_count word none i) s.events })) ∙ taken_events columns s.width s.events [] word refl none

  pub none_taken : (s : Block A) → has_character (progress_of columns s).word ≡ true → without_loose columns s ≡ s
  none_taken s some = grind (arith, without_no_event)

  -- ---- what is allowed

  fit_all : (width : ℕ) (ls : List (List (Item A))) → Each (FitsBlock columns width false) ls → lines_fit columns width ls ≡ true
  fit_all width [] h = refl
  fit_all width (l ∷ ls) h = grind (arith, le-leb, fit_all width ls h.1)

  pub fit_allows : (width : ℕ) (may : Bool) (ls : List (List (Item A))) → Each (FitsBlock columns width may) ls → may || lines_fit columns width ls ≡ true
  fit_allows width true ls h = refl
  fit_allows width false ls h = fit_all width ls h

  -- where no line may be wider, all lines fit
  fit_each : (width : ℕ) (ls : List (List (Item A))) → lines_fit columns width ls ≡ true → Each (FitsBlock columns width false) ls
  fit_each width [] e = tt
  fit_each width (l ∷ ls) e = let both = and_parts _ _ e in (inl (leb-true _ _ both.0), fit_each width ls both.1)

  pub allowed_each : (s : Block A) (ls : List (List (Item A))) → s.may_overflow ≡ false → allows columns s ls ≡ true → Each (FitsBlock columns s.width false) ls
  allowed_each s ls never e = fit_each s.width ls (subst (λ o. o || lines_fit columns s.width ls ≡ true) never e)

  pub not_allowed : (s : Block A) (ls : List (List (Item A))) → s.may_overflow ≡ false → lines_fit columns s.width ls ≡ false → allows columns s ls ≡ false
  not_allowed s ls never h = ap (λ may. may || lines_fit columns s.width ls) never ∙ h

  pub entered_allows : (s : Block A) (es : List (Entry A)) → Each (FitsBlock columns s.width s.may_overflow) (fold (enter columns s.width) (progress_of columns s) es).laid.done →
      allows columns (grown s (map entry es)) (lines columns (grown s (map entry es))) ≡ true
  entered_allows s es h = grind (arith, progress_grown, entries_entered, fit_allows)

  pub if_allowed : (b : Bool) (t : Block A) → b ≡ true → (if b then done t else refused E.TooNarrow) ≡ done t
  if_allowed b t e = rw e refl

  pub if_not_allowed : (b : Bool) (t : Block A) → b ≡ false → (if b then done t else refused E.TooNarrow) ≡ refused E.TooNarrow
  if_not_allowed b t e = rw e refl

  -- ---- a text

  entries_append : (cs ds : List ℕ) (a b : A) (mode : WhiteSpace) → map entry (text_entries (cs ++ ds) a b mode) ≡ map entry (text_entries cs a b mode) ++ map entry (text_entries ds a b mode)
  entries_append [] ds a b mode = refl
  entries_append (x ∷ cs) ds a b mode = ap (λ (es : List (Event A)). entry (character x a b mode) ∷ es) (entries_append cs ds a b mode)

  front_and_rest : (s : Block A) (es : List (Event A)) (cs ds : List ℕ) (a b : A) (mode : WhiteSpace) →
      grown (grown s (es ++ map entry (text_entries cs a b mode))) (map entry (text_entries ds a b mode)) ≡ grown s (es ++ map entry (text_entries (cs ++ ds) a b mode))
  front_and_rest s es cs ds a b mode = rw (entries_append cs ds a b mode) (simp append_assoc)

  pub grown_on : (r s t : Block A) (es : List (Event A)) (text rest more : List ℕ) (a b : A) (mode : WhiteSpace) →
      HasGrown r es text rest a b mode s → HasGrown s [] rest more a b mode t → HasGrown r es text more a b mode t
  grown_on r s t es text rest more a b mode h k = grind (arith, append_assoc, front_and_rest)

  -- with what is left of the text too, it is as with the whole text
  pub grown_whole : (r s : Block A) (es : List (Event A)) (text rest : List ℕ) (a b : A) (mode : WhiteSpace) → HasGrown r es text rest a b mode s →
      grown s (map entry (text_entries (chars rest) a b mode)) ≡ grown r (es ++ map entry (text_entries (chars text) a b mode))
  grown_whole r s es text rest a b mode h =
      rw (h.is, h.split) (front_and_rest r es h.front (chars rest) a b mode)

  pub grown_all : (r s : Block A) (es : List (Event A)) (text rest : List ℕ) (a b : A) (mode : WhiteSpace) →
      (length rest == 0) ≡ true → HasGrown r es text rest a b mode s →
      s ≡ grown r (es ++ map entry (text_entries (chars text) a b mode))
  grown_all r s es text rest a b mode e h =
      rw (no_chars rest e, append-nil s.events) at (grown_whole r s es text rest a b mode h)

  module _ (r s : Block A) (text rest : List ℕ) (a b : A) (mode : WhiteSpace) (h : HasGrown r (call ∷ []) text rest a b mode s) where
    -- the whole text has come
    pub text_done : (length rest == 0) ≡ true → allows columns s (lines columns s) ≡ true → settled columns (grown r (text_events (chars text) a b mode)) ≡ done s
    text_done e test = ap (settled columns) (sym (grown_all r s (call ∷ []) text rest a b mode e h)) ∙ if_allowed (allows columns s (lines columns s)) s test

  -- a word of the text is too wide
  pub refused_text : (s : Block A) (es : List (Entry A)) → s.may_overflow ≡ false →
      lines_fit columns s.width (fold (enter columns s.width) (progress_of columns s) es).laid.done ≡ false →
      settled columns (grown s (map entry es)) ≡ refused E.TooNarrow
  refused_text s es never h = grind (arith, if_not_allowed, not_allowed, fold-append, entries_entered)

  -- ---- a line

  pub hands_first : (eq : A → A → Bool) (s : Block A) (ls : List (List (Item A))) (line : List (Element A)) → (ls ≡ [] → ⊥) →
      ((text : List (Item A)) (rest : List (List (Item A))) → ls ≡ text ∷ rest → ShowsText columns eq s.padding s.width line text) → HandsOutFirst columns eq s ls (Some line)
  hands_first eq s [] line some shows = absurd (some refl)
  hands_first eq s (text ∷ rest) line some shows = shows text rest refl

  pub no_line : (s t : Block A) → left columns s ≡ [] → t ≡ s → done (if is_some_list (left columns s) then line_handed_out s else s) ≡ done t
  no_line s t none is = ap (λ (ls : List (List (Item A))). done (if is_some_list ls then line_handed_out s else s)) none ∙ ap done (sym is)
