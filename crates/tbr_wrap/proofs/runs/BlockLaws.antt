-- What follows from the outcomes of a block's calls.
use Rattle.tbr_wrap.proofs.Common.{◌≡◌, ℕ, ◌-◌, ◌<◌, ◌≤◌, ◌==◌, not, ◌&&◌, ◌⊎◌, Bool, true, false, Option, None, Some, IfSome, List, [], ◌∷◌, ◌++◌, drop, length, map, refl, ap, sym, ◌∙◌, subst, arith}
use Rattle.tbr_wrap.proofs.Common.{append_assoc, append-nil, length-append, lt-ltb, inl, inr, if◌then◌else◌, drop_at, and_parts, and_left, and_right, cases_lt, cond_both, eqb-true, not-true, Each}
use Rattle.tbr_wrap.proofs.Common.{WhiteSpace, Item, marker, Entry, marker_entry, has_character, reading, trailing, names_in_items, is_visible, end_if_character, joined, Event, entry, run_of}
use Rattle.tbr_wrap.proofs.Common.{Progress, at_start, waiting, lines_fit, items_width-append, no_character_no_width, NormalBlank, finished_adds, run_of-append, waiting_none, marker_items_alone}
use Rattle.tbr_wrap.proofs.Common.{normal_keeps, Element, done, refused, live_goes, FitsBlock, HasBestLines, WordsFit, EndedWordsFit, ShowsText, IsNormal, CharactersFit, VisibleFit, is_some_list}
use Rattle.tbr_wrap.proofs.Common.{text_entries, Block, new_block, progress_of, lines, all_lines, left, has_no_character, loose_names, loose, allows, grown, text_events, flushed, after_flush}
use Rattle.tbr_wrap.proofs.Common.{without_loose, line_handed_out, HandsOutFirst, RuleFitsWidth}
use Rattle.std.proofs.Math.ListN.{drop_of_length-le}
use Rattle.std.proofs.lemmas.List.{drop-append-le}
use Rattle.std.proofs.lemmas.Bool.{or_right, ne_eqb, cases_Bool, or_parts}
use Rattle.tbr_model.specs.Markers.{names_in_run, marker_run, marker_items, names_after, last}
use Rattle.tbr_model.specs.Layout.{slots_of, HasLegalLines}
use Rattle.tbr_model.specs.Shown.{without_spaces, run_shows_columns}
use Rattle.tbr_model.proofs.words.KeptItems.{narrow_if_legal, each_words_narrow}
use Rattle.tbr_model.proofs.rule.DoneLines.{if_same}
use Rattle.tbr_model.proofs.rule.HardLines.{not_flushed}
use Rattle.tbr_model.proofs.rule.Markers.{run_of_markers, markers_run, markers_at_end, names_in_items-append}
use Rattle.tbr_model.proofs.lines.Columns.{columns_show}
use Rattle.tbr_model.proofs.lines.KeptOrder.{shown_in_order}
use Rattle.tbr_model.proofs.lines.MarkersAlone.{no_line_ends}
use Rattle.tbr_model.proofs.lines.NothingInvented.{nothing_invented}
use Rattle.tbr_model.proofs.lines.OwnAnnotations.{own_shown}
use Rattle.tbr_model.proofs.lines.RunCharacters.{come_with_run}
use Rattle.tbr_model.proofs.lines.WaitingMarkers.{waits_after_visible, waits_after_kept}
use Rattle.tbr_tagged.specs.declared.error.Error.TheVariants as E
use Rattle.tbr_tagged.proofs.Outcomes.{live_done, live_refused}
use Rattle.tbr_wrap.specs.Runs.{EndsRun, AreLastOf}
use Rattle.tbr_wrap.specs.Block.{takes_no_columns, waiting_names, after_text, after_marker, after_taking, after_line, IsSound, RunDecides}
use Rattle.tbr_wrap.proofs.runs.EndedRuns.{shown_run, waits_normal, blank_normal, stands, words_fit, visible_fit, two_columns_characters}
use Rattle.tbr_wrap.proofs.runs.FittingLines.{fitting_lines}
use Rattle.tbr_wrap.proofs.runs.LinesLeft.{some_count}
use Rattle.tbr_wrap.proofs.runs.Blocks.{steps_add, progress_grown, progress_flushed, progress_taken, none_taken, allowed_each, fit_allows, if_allowed, if_not_allowed}
use Rattle.tbr_wrap.proofs.runs.RuleWidths.{run_fits, end_fits, normal_run_fits, normal_end_fits}

last_of_two : {X : Type 0} (xs ys : List X) → last (length ys) (xs ++ ys) ≡ ys
last_of_two xs ys = drop_at xs ys (length (xs ++ ys) - length ys) (omega (arith, length-append xs ys))

pub entries_run : {A : Type 0} (es : List (Entry A)) → run_of (map entry es) ≡ es
entries_run [] = refl
entries_run {A} (e ∷ es) = ap (λ (fs : List (Entry A)). e ∷ fs) (entries_run es)

-- A line that was handed out is the first that was left.
pub record HandsOne {A : Type 0} (columns : ℕ → Option ℕ) (eq : A → A → Bool) (s : Block A) (line : List (Element A)) (t : Block A) : Type 0 where
  pub text : List (Item A)
  pub rest : List (List (Item A))
  pub left_is : left columns s ≡ text ∷ rest
  pub shows : ShowsText columns eq s.padding s.width line text
  pub leaves : t ≡ line_handed_out s

module _ {A : Type 0} (columns : ℕ → Option ℕ) where
  -- ---- what a call leaves

  made : (b : Bool) (t u : Block A) → (if b then done t else refused E.TooNarrow) ≡ done u → (b ≡ true) × (t ≡ u)
  made true t u e = (refl, cc)
  made false t u e = cc

  unmade : (b : Bool) (t : Block A) → (if b then done t else refused E.TooNarrow) ≡ refused E.TooNarrow → b ≡ false
  unmade true t e = cc
  unmade false t e = refl

  module _ (s t : Block A) where
    text_made : (cs : List ℕ) (a b : A) (mode : WhiteSpace) → after_text columns cs a b mode s ≡ done t →
        let g = grown s (text_events cs a b mode) in (allows columns g (lines columns g) ≡ true) × (g ≡ t)
    text_made cs a b mode e = made _ _ t (live_done s.failure _ t e).1

    pub text_leaves : (cs : List ℕ) (a b : A) (mode : WhiteSpace) → after_text columns cs a b mode s ≡ done t → t ≡ grown s (text_events cs a b mode)
    text_leaves cs a b mode e = sym (text_made cs a b mode e).1

    pub marker_leaves : (name : List ℕ) → after_marker name s ≡ done t → t ≡ grown s (entry (marker_entry name) ∷ [])
    marker_leaves name e = let is = (live_done s.failure _ t e).1 in cc

    pub taking_leaves : after_taking columns s ≡ done t → t ≡ without_loose columns s
    taking_leaves e = let is = (live_done s.failure _ t e).1 in cc

    flush_made : after_flush columns s ≡ done t → (allows columns s (all_lines columns s) ≡ true) × (flushed columns s ≡ t)
    flush_made e = made _ _ t (live_done s.failure _ t e).1

    pub flush_allowed : after_flush columns s ≡ done t → allows columns s (all_lines columns s) ≡ true
    flush_allowed e = (flush_made e).0

    pub flush_leaves : after_flush columns s ≡ done t → t ≡ flushed columns s
    flush_leaves e = sym (flush_made e).1

    pub line_leaves : after_line columns s ≡ done t → t ≡ (if is_some_list (left columns s) then line_handed_out s else s)
    line_leaves e = let is = (live_done s.failure _ t e).1 in cc

  -- what `next_line` hands out, and leaves
  module _ (eq : A → A → Bool) (s t : Block A) (e : after_line columns s ≡ done t) where
    first_handed : (ls : List (List (Item A))) (line : List (Element A)) → left columns s ≡ ls → HandsOutFirst columns eq s ls (Some line) → HandsOne columns eq s line t
    first_handed [] line is h = cc
    first_handed (text ∷ rest) line is h = record { text = text; rest = rest; left_is = is; shows = h; leaves = line_leaves s t e ∙ ap (λ ls. if is_some_list ls then line_handed_out s else s) is }

    pub one_handed : (line : List (Element A)) → HandsOutFirst columns eq s (left columns s) (Some line) → HandsOne columns eq s line t
    one_handed line h = first_handed (left columns s) line refl h

    none_there : (ls : List (List (Item A))) → left columns s ≡ ls → HandsOutFirst columns eq s ls None → (left columns s ≡ []) × (t ≡ s)
    none_there [] is h = (is, line_leaves s t e ∙ ap (λ ls. if is_some_list ls then line_handed_out s else s) is)
    none_there (text ∷ rest) is h = absurd h

    pub none_handed : HandsOutFirst columns eq s (left columns s) None → (left columns s ≡ []) × (t ≡ s)
    none_handed h = none_there (left columns s) refl h

  -- ---- lines only come

  module _ (s : Block A) (es : List (Event A)) where
    pub lines_grown : (more : List (List (Item A))) × (lines columns (grown s es) ≡ lines columns s ++ more)
    lines_grown = let add = steps_add columns s.width es (progress_of columns s) in (add.0, ap (λ (p : Progress A). p.laid.done) (progress_grown columns s es) ∙ add.1)

    pub left_grown : s.handed ≤ length (lines columns s) → left columns (grown s es) ≡ left columns s ++ lines_grown.0
    left_grown within =
        ap (λ ls. s.ended ++ drop s.handed ls) lines_grown.1
        ∙ ap (λ ls. s.ended ++ ls) (drop-append-le s.handed (lines columns s) lines_grown.0 within)
        ∙ sym (append_assoc s.ended (drop s.handed (lines columns s)) lines_grown.0)

  lines_taken : (s : Block A) → lines columns (without_loose columns s) ≡ lines columns s
  lines_taken s = grind (arith, cases_Bool, none_taken, progress_taken)

  pub left_taken : (s : Block A) → left columns (without_loose columns s) ≡ left columns s
  left_taken s = ap (λ ls. s.ended ++ drop s.handed ls) (lines_taken s)

  none_flushed : (s : Block A) → lines columns (flushed columns s) ≡ []
  none_flushed s = ap (λ (p : Progress A). p.laid.done) (progress_flushed columns s)

  pub left_flushed : (s : Block A) → left columns (flushed columns s) ≡ s.ended ++ drop s.handed (all_lines columns s)
  left_flushed s = ap (λ ls. (flushed columns s).ended ++ drop 0 ls) (none_flushed s) ∙ append-nil (flushed columns s).ended

  -- the lines that the end of the run adds come after those that are left
  pub left_ended : (s : Block A) → s.handed ≤ length (lines columns s) →
      (more : List (List (Item A))) × (all_lines columns s ≡ lines columns s ++ more) ×
      (left columns (flushed columns s) ≡ left columns s ++ more)
  left_ended s within =
      let add = finished_adds columns s.width (progress_of columns s) in
      (add.0, add.1, rw (left_flushed s, add.1, drop-append-le s.handed (lines columns s) add.0 within, append_assoc) refl)

  -- ---- what stays so

  pub sound_new : (width : ℕ) (may : Bool) (padding : Option A) → 0 < width → IsSound columns (new_block width may padding)
  sound_new width may padding wide = record { wide = wide; allowed = or_right may true refl; within = omega arith }

  module _ (s : Block A) (h : IsSound columns s) where
    sound_grown : (es : List (Event A)) → allows columns s (lines columns (grown s es)) ≡ true → IsSound columns (grown s es)
    sound_grown es allowed =
        let more = lines_grown s es in
        record { wide = h.wide; allowed = allowed; within = omega (arith, h.within, ap length more.1, length-append (lines columns s) more.0) }

    pub sound_text : (t : Block A) (cs : List ℕ) (a b : A) (mode : WhiteSpace) → after_text columns cs a b mode s ≡ done t → IsSound columns t
    sound_text t cs a b mode e = let is = text_made s t cs a b mode e in subst (IsSound columns) is.1 (sound_grown (text_events cs a b mode) is.0)

    pub sound_marked : (t : Block A) (name : List ℕ) → after_marker name s ≡ done t → IsSound columns t
    sound_marked t name e = grind (arith, progress_grown, marker_leaves, sound_grown)

    pub sound_taken : (t : Block A) → after_taking columns s ≡ done t → IsSound columns t
    sound_taken t e =
        rw (taking_leaves s t e) (record { wide = h.wide; allowed = ap (allows columns s) (lines_taken s) ∙ h.allowed; within = omega (arith, h.within, ap length (lines_taken s)) })

    pub sound_flushed : (t : Block A) → after_flush columns s ≡ done t → IsSound columns t
    sound_flushed t e =
        rw (flush_leaves s t e) (record { wide = h.wide; allowed = ap (allows columns s) (none_flushed s) ∙ or_right s.may_overflow true refl; within = omega arith })

    pub sound_line : (t : Block A) → after_line columns s ≡ done t → IsSound columns t
    sound_line t e = subst (IsSound columns) (sym (line_leaves s t e)) (cond_both (is_some_list (left columns s)) _ _ (IsSound columns) some (λ _. h))
      where
        within_one : is_some_list (left columns s) ≡ true → (es : List (List (Item A))) → s.ended ≡ es → (line_handed_out s).handed ≤ length (lines columns s)
        within_one some (l ∷ es) is = rw is h.within
        within_one some [] is = rw is (elim (cases_lt s.handed (length (lines columns s))) [
          | inl less ↦ less
          | inr most ↦ absurd (let none : true ≡ false = sym some ∙ ap is_some_list (ap (λ ls. ls ++ drop s.handed (lines columns s)) is ∙ drop_of_length-le (lines columns s) most) in cc)
        ])

        some : is_some_list (left columns s) ≡ true → IsSound columns (line_handed_out s)
        some left_one =
            let here : s.handed ≤ length (lines columns s) = h.within in
            cond_both (is_some_list s.ended) _ _ (λ (q : Block A). q.handed ≤ length (lines columns s) → IsSound columns q)
            (λ _ in_one. record { wide = h.wide; allowed = h.allowed; within = in_one })
            (λ _ in_one. record { wide = h.wide; allowed = h.allowed; within = in_one }) (within_one left_one s.ended refl)

  -- ---- what is allowed

  never_if : (s : Block A) (ls : List (List (Item A))) → allows columns s ls ≡ false → s.may_overflow ≡ false
  never_if s ls e = (or_parts s.may_overflow (lines_fit columns s.width ls) e).0

  -- and where lines may be wider, the rule says which they are
  fit_lines : columns 32 ≡ Some 1 → (s : Block A) → 0 < s.width → allows columns s (all_lines columns s) ≡ true → Each (FitsBlock columns s.width s.may_overflow) (all_lines columns s)
  fit_lines one s wide e = elim (cases_Bool s.may_overflow) [
    | inl may ↦ rw may (end_fits columns s.width true one wide s.events (inl refl))
    | inr never ↦ rw never (allowed_each columns s (all_lines columns s) never e)
  ]

  refused_where : (s : Block A) (ls : List (List (Item A))) → allows columns s ls ≡ false → Each (FitsBlock columns s.width false) ls → ⊥
  refused_where s ls not_all fit = let k : true ≡ false = sym (or_right s.may_overflow _ (fit_allows columns s.width false ls fit)) ∙ not_all in cc

  -- ---- the end of a run

  module _ (s : Block A) where
    abbrev p : Progress A
    p = progress_of columns s

    abbrev run : List (Entry A)
    run = run_of s.events

    left_is : waiting columns s.width p ≡ marker_items (waiting_names columns s)
    left_is = marker_items_alone (waiting columns s.width p) (waiting_none columns s.width p)

    abbrev Same : A → A → Type 0
    Same a b = a ≡ b

    ends_run : columns 32 ≡ Some 1 → 0 < s.width →
        Each (FitsBlock columns s.width s.may_overflow) (all_lines columns s) →
        EndsRun columns s.width s.may_overflow run (all_lines columns s) (waiting_names columns s)
    ends_run one wide fits = record {
      shown = shown_run columns s.width one wide s.may_overflow s.events fits;
      fits = fits;
      invents = nothing_invented columns s.width Same (λ a. refl) s.events;
      come = come_with_run columns s.width Same (λ a. refl) s.events;
      order = shown_in_order columns s.width Same (λ a. refl) s.events;
      own = λ plain. own_shown columns s.width Same (λ a. refl) s.events plain;
      fitting = λ pre. fitting_lines columns Same (λ a. refl) s.width s.events pre;
      kept = λ normal. ap (λ is. without_spaces (joined (all_lines columns s)) ++ is) (sym left_is) ∙ normal_keeps columns s.width s.events normal;
      markers = markers_at_end columns s.width s.events;
      after = waits_after_visible columns s.width s.events;
      after_kept = λ normal. waits_after_kept columns s.width s.events normal;
      waits = λ never normal. sym left_is ∙ waits_normal columns s.width s.events (subst (λ o. Each (FitsBlock columns s.width o) (all_lines columns s)) never fits) normal;
      alone = λ none. no_line_ends columns s.width s.events none;
    }

  module _ (one : columns 32 ≡ Some 1) (s : Block A) (wide : 0 < s.width) where
    module _ (t : Block A) (e : after_flush columns s ≡ done t) where
      pub flush_ends : EndsRun columns s.width s.may_overflow (run_of s.events) (all_lines columns s) (waiting_names columns s)
      flush_ends = ends_run s one wide (fit_lines one s wide (flush_allowed s t e))

      -- a `Normal` run where no line may be wider has the lines of its best layout
      pub flush_best : s.may_overflow ≡ false → IsNormal (run_of s.events) → HasBestLines columns s.width (run_of s.events) (all_lines columns s)
      flush_best never normal = flush_ends.shown.best never normal

      pub flush_words_fit : s.may_overflow ≡ false → IsNormal (run_of s.events) → WordsFit columns s.width (run_of s.events)
      flush_words_fit never normal = words_fit columns s.width s.events (allowed_each columns s (all_lines columns s) never (flush_allowed s t e)) normal

      pub flush_visible_fit : s.may_overflow ≡ false → VisibleFit columns s.width (run_of s.events)
      flush_visible_fit never = visible_fit columns s.width s.events (allowed_each columns s (all_lines columns s) never (flush_allowed s t e))

    module _ (live : s.failure ≡ None) (e : after_flush columns s ≡ refused E.TooNarrow) where
      not_all : allows columns s (all_lines columns s) ≡ false
      not_all = unmade (allows columns s (all_lines columns s)) (flushed columns s) (live_refused s.failure _ E.TooNarrow live e)

      -- one that refuses has no line that may be wider, and a character that is
      pub flush_never : s.may_overflow ≡ false
      flush_never = never_if s (all_lines columns s) not_all

      pub flush_wide : ¬ (CharactersFit columns s.width (run_of s.events))
      flush_wide fit = refused_where s (all_lines columns s) not_all (end_fits columns s.width false one wide s.events (inr fit))

      pub flush_wide_word : IsNormal (run_of s.events) → ¬ (WordsFit columns s.width (run_of s.events))
      flush_wide_word normal fit = refused_where s (all_lines columns s) not_all (normal_end_fits columns s.width one wide s.events normal fit)

    -- a `Normal` run is refused so exactly where it has no legal layout
    module _ (live : s.failure ≡ None) where
      pub no_layout_if_refused : after_flush columns s ≡ refused E.TooNarrow → IsNormal (run_of s.events) → ¬ (HasLegalLines s.width (slots_of columns s.width (run_of s.events)))
      no_layout_if_refused e normal some =
          flush_wide_word live e normal (each_words_narrow columns s.width (run_of s.events) (narrow_if_legal columns s.width (run_of s.events) some.0 some.1))

      pub refused_if_no_layout : s.may_overflow ≡ false → IsNormal (run_of s.events) →
          ¬ (HasLegalLines s.width (slots_of columns s.width (run_of s.events))) →
          after_flush columns s ≡ refused E.TooNarrow
      refused_if_no_layout never normal none = go (allows columns s (all_lines columns s)) refl
        where
          go : (b : Bool) → allows columns s (all_lines columns s) ≡ b → after_flush columns s ≡ refused E.TooNarrow
          go false not_all = live_goes s.failure _ live ∙ if_not_allowed columns (allows columns s (all_lines columns s)) (flushed columns s) not_all
          go true all =
              let best = flush_best (flushed columns s) (live_goes s.failure _ live ∙ if_allowed columns (allows columns s (all_lines columns s)) (flushed columns s) all) never normal in
              absurd (none (best.lines, best.best.legal))

  -- where open line and word hold no character no line ends
  pub none_ended : (s : Block A) → has_no_character columns s ≡ true → all_lines columns s ≡ lines columns s
  none_ended s none = grind (arith, and_parts, not_flushed, not-true)

  pub flush_none : (s t : Block A) → after_flush columns s ≡ done t → has_no_character columns s ≡ true → left columns t ≡ left columns s
  flush_none s t e none = ap (left columns) (flush_leaves s t e) ∙ left_flushed s ∙ ap (λ ls. s.ended ++ drop s.handed ls) (none_ended s none)

  -- after it nothing is open
  module _ (s t : Block A) (e : after_flush columns s ≡ done t) where
    after_is : progress_of columns t ≡ record at_start { word = waiting columns s.width (p s) }
    after_is = ap (progress_of columns) (flush_leaves s t e) ∙ progress_flushed columns s

    pub none_open : has_no_character columns t ≡ true
    none_open = ap (λ (q : Progress A). not (has_character q.laid.line) && not (has_character q.word)) after_is ∙ ap not (waiting_none columns s.width (p s))

    pub no_columns_open : takes_no_columns columns t ≡ true
    no_columns_open = rw (after_is, no_character_no_width columns _ (waiting_none columns s.width (p s))) refl

    pub run_waits : run_of t.events ≡ marker_run (waiting_names columns s)
    run_waits = ap (λ (q : Block A). run_of q.events) (flush_leaves s t e) ∙ run_of_markers (waiting_names columns s)

    pub waiting_loose : loose columns t ≡ waiting_names columns s
    waiting_loose = ap (λ (q : Progress A). loose_names q.word) after_is ∙ (let none = waiting_none columns s.width (p s) in rw none refl)

    pub none_open_taken : (u : Block A) → after_taking columns t ≡ done u → has_no_character columns u ≡ true
    none_open_taken u taken = grind (arith, after_is, waiting_none, taking_leaves, progress_taken)

  -- ---- a text

  module _ (s : Block A) (cs : List ℕ) (a b : A) (mode : WhiteSpace) where
    abbrev g : Block A
    g = grown s (text_events cs a b mode)

    pub text_run : run_of g.events ≡ run_of s.events ++ text_entries cs a b mode
    text_run = run_of-append s.events (text_events cs a b mode) ∙ ap (λ (es : List (Entry A)). run_of s.events ++ es) (entries_run (text_entries cs a b mode))

    -- where a `Normal` text joins, each word that a break point has ended fits
    pub text_words_fit : (t : Block A) → after_text columns cs a b mode s ≡ done t → columns 32 ≡ Some 1 → 0 < s.width →
        s.may_overflow ≡ false → IsNormal (run_of s.events ++ text_entries cs a b mode) →
        EndedWordsFit columns s.width (run_of s.events ++ text_entries cs a b mode)
    text_words_fit t e one wide never normal =
        let fits = run_fits columns s.width true one wide g.events (inl refl) in
        subst (EndedWordsFit columns s.width) text_run
        (stands columns s.width g.events (subst (λ (es : List (Entry A)). IsNormal es) (sym text_run) normal)
        (allowed_each columns g (lines columns g) never (text_made s t cs a b mode e).0) fits.small fits.line).0

    module _ (live : s.failure ≡ None) (e : after_text columns cs a b mode s ≡ refused E.TooNarrow) where
      not_ended : allows columns g (lines columns g) ≡ false
      not_ended = unmade (allows columns g (lines columns g)) g (live_refused s.failure _ E.TooNarrow live e)

      pub text_never : s.may_overflow ≡ false
      text_never = never_if g (lines columns g) not_ended

    module _ (one : columns 32 ≡ Some 1) (wide : 0 < s.width) (live : s.failure ≡ None) (e : after_text columns cs a b mode s ≡ refused E.TooNarrow) where
      pub text_wide : ¬ (CharactersFit columns s.width (run_of s.events ++ text_entries cs a b mode))
      text_wide fit =
          refused_where g (lines columns g) (not_ended live e)
          (run_fits columns s.width false one wide g.events (inr (subst (λ (es : List (Entry A)). CharactersFit columns s.width es) (sym text_run) fit))).done

      pub text_wide_word : IsNormal (run_of s.events ++ text_entries cs a b mode) → ¬ (EndedWordsFit columns s.width (run_of s.events ++ text_entries cs a b mode))
      text_wide_word normal fit = grind (arith, refused_where, not_ended, normal_run_fits, text_run)

  -- ---- in two columns nothing is too narrow

  module _ (one : columns 32 ≡ Some 1) (law : (c : ℕ) → IfSome (columns c) (λ n. n ≤ 2)) (s : Block A) where
    pub text_in_two : (cs : List ℕ) (a b : A) (mode : WhiteSpace) → 2 ≤ s.width → s.failure ≡ None → ¬ (after_text columns cs a b mode s ≡ refused E.TooNarrow)
    text_in_two cs a b mode two live e = text_wide s cs a b mode one (omega (arith, two)) live e (two_columns_characters columns s.width law two (run_of s.events ++ text_entries cs a b mode))

    pub flush_in_two : 2 ≤ s.width → s.failure ≡ None → ¬ (after_flush columns s ≡ refused E.TooNarrow)
    flush_in_two two live e = flush_wide one s (omega (arith, two)) live e (two_columns_characters columns s.width law two (run_of s.events))

  -- ---- what a `Normal` run decides

  module _ (one : columns 32 ≡ Some 1) (s : Block A) (sound : IsSound columns s) where
    measured : RuleFitsWidth columns s.width true (p s).laid
    measured = run_fits columns s.width true one sound.wide s.events (inl refl)

    module _ (never : s.may_overflow ≡ false) (normal : IsNormal (run_of s.events)) where
      ended : Each (FitsBlock columns s.width false) (lines columns s)
      ended = allowed_each columns s (lines columns s) never sound.allowed

      -- the markers that trail are those of a word without a character
      pub loose_trailing : loose columns s ≡ names_in_items (trailing columns (run_of s.events))
      loose_trailing =
          ap loose_names ((stands columns s.width s.events normal ended measured.small measured.line).1.word)
          ∙ if_same names_in_items (has_character (reading columns (run_of s.events)).items) [] (reading columns (run_of s.events)).items _ _ refl refl

      pub run_decides : RunDecides columns s
      run_decides =
          let blank : NormalBlank columns (p s) (run_of s.events) = blank_normal columns s.width s.events normal ended measured.small measured.line in
          record {
            no_columns = (
              λ both. let parts = and_parts _ _ both in blank.blank_if (eqb-true _ _ parts.0) (eqb-true _ _ parts.1),
              λ none. let k = blank.blank none in rw (k.0, k.1) refl,
            );
            no_character = (
              λ both. let parts = and_parts _ _ both in blank.bare_if (not-true _ parts.0) (not-true _ parts.1),
              λ none. let k = blank.bare none in rw (k.1, k.2) refl,
            );
            no_line = λ none. (blank.blank none).2;
          }

    -- where something takes columns there is a character
    pub character_there : takes_no_columns columns s ≡ false → has_no_character columns s ≡ false
    character_there some = go (has_character (p s).laid.line) (has_character (p s).word) refl refl
      where
        go : (l w : Bool) → has_character (p s).laid.line ≡ l → has_character (p s).word ≡ w → not l && not w ≡ false
        go true w line word = refl
        go false true line word = refl
        go false false line word =
            let bare : (p s).laid.width ≡ 0 = measured.line ∙ no_character_no_width columns (p s).laid.line line in
            let test : takes_no_columns columns s ≡ true = rw (bare, no_character_no_width columns (p s).word word) refl in
            sym test ∙ some

  -- ---- markers and columns

  module _ (s : Block A) where
    -- where a visible character that takes columns came, a line has ended or something that is open takes columns
    pub shows_columns : run_shows_columns columns (run_of s.events) ≡ true → (is_some_list (lines columns s) ≡ true) ⊎ (takes_no_columns columns s ≡ false)
    shows_columns shows = elim (columns_show columns s.width s.events shows) [
      | inl ends ↦ inl (some_count (lines columns s) ∙ lt-ltb 0 (length (lines columns s)) ends)
      | inr open_or_word ↦ inr (elim open_or_word [
        | inl line ↦ and_left _ _ (no_eq _ line)
        | inr word ↦ and_right _ _ (no_eq _ word)
      ])
    ]
      where
        no_eq : (n : ℕ) → 0 < n → (n == 0) ≡ false
        no_eq n some = ne_eqb n 0 (λ e. omega (arith, some, e))

    -- the loose markers are the last ones of the run
    pub loose_last : loose columns s ≡ last (length (loose columns s)) (names_in_run (run_of s.events))
    loose_last = elim (cases_Bool (has_character (p s).word)) [
      | inl some ↦
          let none : loose columns s ≡ [] = rw some refl in
          let names : List (List ℕ) = names_in_run (run_of s.events) in
          none ∙ sym (ap (λ ns. last (length ns) names) none ∙ ap (last 0) (sym (append-nil names)) ∙ last_of_two names [])
      | inr none ↦
          let names : loose columns s ≡ names_in_items (p s).word = rw none refl in
          let parts : names_in_run (run_of s.events) ≡ front ++ loose columns s = all ∙ ap (λ ns. front ++ ns) (sym names) in
          sym (ap (last (length (loose columns s))) parts ∙ last_of_two front (loose columns s))
    ]
      where
        front : List (List ℕ)
        front = names_in_items (joined (p s).laid.done) ++ names_in_items (p s).laid.line

        all : names_in_run (run_of s.events) ≡ front ++ names_in_items (p s).word
        all = sym (markers_run columns s.width s.events) ∙ sym (append_assoc (names_in_items (joined (p s).laid.done)) (names_in_items (p s).laid.line) (names_in_items (p s).word))

    -- they come after the last visible character
    pub loose_after : AreLastOf (loose columns s) (names_after (is_visible columns) (run_of s.events))
    loose_after = both (has_character (p s).word) refl
      where
        all : List (List ℕ)
        all = names_after (is_visible columns) (run_of s.events)

        waits : AreLastOf (waiting_names columns s) all
        waits = waits_after_visible columns s.width s.events

        both : (t : Bool) → has_character (p s).word ≡ t → AreLastOf (loose columns s) all
        both true some = (all, (let none : loose columns s ≡ [] = rw some refl in ap (λ ns. all ++ ns) none ∙ append-nil all))
        both false none =
            let names : loose columns s ≡ names_in_items (p s).word = rw none refl in
            let line : List (Item A) = (end_if_character (p s).laid).line in
            let parts : waiting columns s.width (p s) ≡ line ++ (p s).word = rw none refl in
            let split : waiting_names columns s ≡ names_in_items line ++ loose columns s =
            ap names_in_items parts ∙ names_in_items-append line (p s).word ∙ ap (λ ns. names_in_items line ++ ns) (sym names) in
            (waits.0 ++ names_in_items line, append_assoc waits.0 (names_in_items line) (loose columns s) ∙ ap (λ ns. waits.0 ++ ns) (sym split) ∙ waits.1)

  -- a marker joins the word, and ends no line
  with_marker : (word : List (Item A)) (name : List ℕ) → has_character (word ++ marker name ∷ []) ≡ has_character word
  with_marker (marker n ∷ is) name = with_marker is name
  with_marker _ name = refl

  module _ (s t : Block A) (name : List ℕ) (e : after_marker name s ≡ done t) where
    marked : progress_of columns t ≡ record (p s) { word = (p s).word ++ marker name ∷ [] }
    marked = ap (progress_of columns) (marker_leaves s t name e) ∙ progress_grown columns s (entry (marker_entry name) ∷ [])

    pub marker_lines : lines columns t ≡ lines columns s
    marker_lines = ap (λ (q : Progress A). q.laid.done) marked

    pub marker_columns : takes_no_columns columns t ≡ takes_no_columns columns s
    marker_columns = grind (arith, items_width-append, marked)

    pub marker_character : has_no_character columns t ≡ has_no_character columns s
    marker_character = rw (marked, with_marker (p s).word name) refl

    -- one more is loose where the word has no character, and else none
    pub marker_loose : has_character (p s).word ≡ false → loose columns t ≡ loose columns s ++ name ∷ []
    marker_loose none = grind (arith, with_marker, marked, names_in_items-append)

    pub marker_either : (loose columns t ≡ loose columns s ++ name ∷ []) ⊎ ((loose columns s ≡ []) × (loose columns t ≡ []))
    marker_either = go (has_character (p s).word) refl
      where
        go : (b : Bool) → has_character (p s).word ≡ b → (loose columns t ≡ loose columns s ++ name ∷ []) ⊎ ((loose columns s ≡ []) × (loose columns t ≡ []))
        go true some = let both = with_marker (p s).word name ∙ some in inr (rw some refl, ap (λ (q : Progress A). loose_names q.word) marked ∙ rw both refl)
        go false none = inl (marker_loose none)

    pub marker_first : has_no_character columns s ≡ true → loose columns t ≡ loose columns s ++ name ∷ []
    marker_first none = marker_loose (not-true _ (and_parts (not (has_character (p s).laid.line)) (not (has_character (p s).word)) none).1)
