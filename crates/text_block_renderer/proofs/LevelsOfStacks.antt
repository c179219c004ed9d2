-- The levels of a stack, each led by its own acts.
use Rattle.text_block_renderer.proofs.Common.{◌≡◌, ℕ, zero, suc, ◌+◌, Bool, if◌then◌else◌, Option, Some, None, List, [], ◌∷◌, ◌++◌, length, drop, flat_map, refl, ap, ◌∙◌, subst, arith, pointwise}
use Rattle.text_block_renderer.proofs.Common.{RenderOptions, Decoration, Outcome, Renderer, Settings, footnote_lines, Call, add_inline_text, begin, finish, after, done, run, Act, call, row, fmt_links}
use Rattle.text_block_renderer.proofs.Common.{finalise, after_act}
use Rattle.tbr_decor.specs.Start as start
use Rattle.tbr_decor.specs.End as end
use Rattle.tbr_renderer.proofs.OutcomeParts.{one_done, done_first, done_before, run_on}
use Rattle.tbr_renderer.proofs.SettingsStay.{Steady, steady, lines_added}
use Rattle.tbr_stack.specs.Stack.{Level, Stack, first_renderer, new_level, with_top, below}
use Rattle.tbr_stack.specs.Top.{in_top}
use Rattle.tbr_stack.specs.Links.{first_open, link_number, with_link, without_open_link, open_links, shown_number, after_end_with}
use Rattle.tbr_renderer.specs.Settings.{settled}
use Rattle.text_block_renderer.specs.Levels.{OnStack, on_top, start_link, end_link, push, pop, set_table_depth, after_on_stack, above_after, LinksOf, links_of, number_acts, own_acts, HasLevel}
use Rattle.tbr_renderer.proofs.Settings.{call_changes}
use Rattle.tbr_renderer.proofs.RowsOfCells.{row_laid, settings_stay}
use Rattle.text_block_renderer.proofs.ActSteps.{act_step}

module _ {D A : Type 0} (columns : ℕ → Option ℕ) (decoration : Decoration D A) where
  abbrev Top : Type 0
  Top = Renderer D A (List A)

  abbrev Levels : Type 0
  Levels = List (Level Top)

  -- ---- options

  abbrev options_in : Settings D A → RenderOptions
  options_in s = let k = s.kept in k.options

  settled_options : (c : Call (List A)) (r : Top) → (settled decoration c r).options ≡ r.options
  settled_options c r = grind arith

  act_options : (act : Act A) (r s : Top) → after_act columns decoration act r ≡ done s → s.options ≡ r.options
  act_options (call c) r s h = ap options_in (call_changes columns decoration c r s h) ∙ settled_options c r
  act_options (row collapses cells) r s h = ap options_in (settings_stay columns r s (row_laid (pointwise decoration.same) columns collapses cells r s h))
  act_options (fmt_links links) r s h =
      ap (λ (q : Top). q.options) (act_step columns decoration (fmt_links links) r s h)
      ∙ ap (λ (x : Steady D A). options_in x.settings)
      (lines_added columns (flat_map (footnote_lines columns r) links) r)
  act_options (finalise targets) r s h = ap (λ (q : Top). q.options) (act_step columns decoration (finalise targets) r s h)

  -- ---- a link that ends

  end_options : (k : Option ℕ) (r s : Top) → after_end_with columns decoration k r ≡ done s → s.options ≡ r.options
  end_options None r s h = act_options (call (finish end.link)) r s h
  end_options (Some k) r s h =
      let (m, ends, shows) = done_first (after columns decoration (finish end.link) r) (after columns decoration (add_inline_text (link_number k))) s h in
      act_options (call (add_inline_text (link_number k))) m s shows ∙ act_options (call (finish end.link)) r m ends

  pub end_leads : (k : Option ℕ) (r m s : Top) (acts : List (Act A)) → after_end_with columns decoration k r ≡ done m → run (after_act columns decoration) acts m ≡ done s →
      run (after_act columns decoration) (call (finish end.link) ∷ number_acts k ++ acts) r ≡ done s
  end_leads None r m s acts h k = run_on (after_act columns decoration) (call (finish end.link)) acts r m (done s) h k
  end_leads (Some n) r m s acts h k =
      let number = add_inline_text (link_number n) in
      let (q, ends, shows) = done_first (after columns decoration (finish end.link) r) (after columns decoration number) m h in
      run_on (after_act columns decoration) (call (finish end.link)) (call number ∷ acts) r q (done s) ends (run_on (after_act columns decoration) (call number) acts q m (done s) shows k)

  -- ---- one level

  abbrev stack_with : Levels → List (List ℕ) → ℕ → Stack Top
  stack_with levels links depth = record { levels = levels; links = links; table_depth = depth }

  abbrev after_all : List (OnStack D A) → Stack Top → Outcome (Stack Top)
  after_all = run (after_on_stack columns decoration)

  abbrev numbered_as : Level Top → Bool → Type 0
  numbered_as level numbered = (let r = level.renderer in r.options.include_link_footnotes) ≡ numbered

  abbrev Goes : (calls : List (OnStack D A)) (k n : ℕ) (numbered : Bool) (level : Level Top) (others : Levels) (links : List (List ℕ)) (t : Stack Top) → Type 0
  Goes calls k n numbered level others links t = HasLevel columns decoration level.renderer (own_acts k (record { numbered = numbered; targets = links; opened = level.open_links }) calls) n others t

  led_first : (act : Act A) (r q : Top) (acts : List (Act A)) (n : ℕ) (others : Levels) (t : Stack Top) →
      after_act columns decoration act r ≡ done q → HasLevel columns decoration q acts n others t →
      HasLevel columns decoration r (act ∷ acts) n others t
  led_first act r q acts n others t h k =
      record { above = k.above; now = k.now; height = k.height; levels = k.levels; leads = run_on (after_act columns decoration) act acts r q (done (let l = k.now in l.renderer)) h k.leads }

  goes : (calls : List (OnStack D A)) (k n : ℕ) (numbered : Bool) (above : Levels) (level : Level Top) (others : Levels)
      (links : List (List ℕ)) (depth : ℕ) (t : Stack Top) → length above ≡ k → numbered_as level numbered →
      above_after k calls ≡ Some n → after_all calls (stack_with (above ++ level ∷ others) links depth) ≡ done t → Goes calls k n numbered level others links t
  goes [] k n numbered above level others links depth t height shows stays h =
      record { above = above; now = level; height = height ∙ (let same : k ≡ n = cc in same); levels = ap (λ (q : Stack Top). q.levels) (one_done _ t h); leads = refl }
  goes (on_top act ∷ calls) zero n numbered [] level others links depth t height shows stays h =
      let s = stack_with (level ∷ others) links depth in
      let (m, acts, more) = done_first (in_top (after_act columns decoration act) s) (after_all calls) t h in
      let (q, does, is) = done_before (with_top s) (after_act columns decoration act level.renderer) m acts in
      led_first act level.renderer q _ n others t does
      (goes calls zero n numbered [] (record level { renderer = q }) others links depth t height
      (ap (λ (o : RenderOptions). o.include_link_footnotes) (act_options act level.renderer q does) ∙ shows) stays
      (subst (λ u. after_all calls u ≡ done t) is more))
  goes (on_top act ∷ calls) (suc k) n numbered (a ∷ above) level others links depth t height shows stays h =
      let s = stack_with (a ∷ above ++ level ∷ others) links depth in
      let (m, acts, more) = done_first (in_top (after_act columns decoration act) s) (after_all calls) t h in
      let (q, does, is) = done_before (with_top s) (after_act columns decoration act a.renderer) m acts in
      goes calls (suc k) n numbered (record a { renderer = q } ∷ above) level others links depth t (omega (arith, height)) shows stays (subst (λ u. after_all calls u ≡ done t) is more)
  goes (start_link target ∷ calls) zero n numbered [] level others links depth t height shows stays h =
      let opens = begin (start.link target) in
      let s = with_link target (stack_with (level ∷ others) links depth) in
      let (m, acts, more) = done_first (in_top (after columns decoration opens) s) (after_all calls) t h in
      let (q, does, is) = done_before (with_top s) (after columns decoration opens level.renderer) m acts in
      led_first (call opens) level.renderer q _ n others t does
      (goes calls zero n numbered [] (record { renderer = q; open_links = (length links + 1) ∷ level.open_links })
      others (links ++ target ∷ []) depth t height
      (ap (λ (o : RenderOptions). o.include_link_footnotes) (act_options (call opens) level.renderer q does) ∙ shows) stays
      (subst (λ u. after_all calls u ≡ done t) is more))
  goes (start_link target ∷ calls) (suc k) n numbered (a ∷ above) level others links depth t height shows stays h =
      let opens = begin (start.link target) in
      let s = with_link target (stack_with (a ∷ above ++ level ∷ others) links depth) in
      let (m, acts, more) = done_first (in_top (after columns decoration opens) s) (after_all calls) t h in
      let (q, does, is) = done_before (with_top s) (after columns decoration opens a.renderer) m acts in
      goes calls (suc k) n numbered (record { renderer = q; open_links = (length links + 1) ∷ a.open_links } ∷ above)
      level others (links ++ target ∷ []) depth t (omega (arith, height)) shows stays
      (subst (λ u. after_all calls u ≡ done t) is more)
  goes (end_link ∷ calls) zero n numbered [] level others links depth t height shows stays h =
      let s = stack_with (level ∷ others) links depth in
      let number = shown_number level.renderer level.open_links in
      let ends = λ (r : Top). after_end_with columns decoration (shown_number r (open_links s)) r in
      let (m, acts, more) = done_first (after_on_stack columns decoration end_link s) (after_all calls) t h in
      let (u, changes, closes) = done_before without_open_link (in_top ends s) m acts in
      let (q, does, is) = done_before (with_top s) (ends level.renderer) u changes in
      let there = goes calls zero n numbered [] (record { renderer = q; open_links = drop 1 level.open_links }) others
      links depth t height (ap (λ (o : RenderOptions). o.include_link_footnotes) (end_options number level.renderer q does) ∙ shows) stays
      (subst (λ v. after_all calls v ≡ done t) (closes ∙ ap without_open_link is) more) in
      let acts_after = own_acts zero (record { numbered = numbered; targets = links; opened = drop 1 level.open_links }) calls in
      record {
        above = there.above;
        now = there.now;
        height = there.height;
        levels = there.levels;
        leads =
            subst (λ b. run (after_act columns decoration)
            (call (finish end.link) ∷ number_acts (if b then first_open level.open_links else None) ++ acts_after)
            level.renderer ≡ done (let l = there.now in l.renderer)) shows
            (end_leads number level.renderer q (let l = there.now in l.renderer) acts_after does there.leads);
      }
  goes (end_link ∷ calls) (suc k) n numbered (a ∷ above) level others links depth t height shows stays h =
      let s = stack_with (a ∷ above ++ level ∷ others) links depth in
      let ends = λ (r : Top). after_end_with columns decoration (shown_number r (open_links s)) r in
      let (m, acts, more) = done_first (after_on_stack columns decoration end_link s) (after_all calls) t h in
      let (u, changes, closes) = done_before without_open_link (in_top ends s) m acts in
      let (q, does, is) = done_before (with_top s) (ends a.renderer) u changes in
      goes calls (suc k) n numbered (record { renderer = q; open_links = drop 1 a.open_links } ∷ above) level others
      links depth t (omega (arith, height)) shows stays
      (subst (λ v. after_all calls v ≡ done t) (closes ∙ ap without_open_link is) more)
  goes (push r ∷ calls) zero n numbered [] level others links depth t height shows stays h =
      goes calls (suc zero) n numbered (new_level r ∷ []) level others links depth t (omega (arith, height)) shows stays h
  goes (push r ∷ calls) (suc k) n numbered (a ∷ above) level others links depth t height shows stays h =
      goes calls (suc (suc k)) n numbered (new_level r ∷ a ∷ above) level others links depth t (omega (arith, height)) shows stays h
  goes (pop ∷ calls) zero n numbered [] level others links depth t height shows stays h = absurd (let no : ⊥ = cc in no)
  goes (pop ∷ calls) (suc k) n numbered (a ∷ above) level others links depth t height shows stays h =
      goes calls k n numbered above level others links depth t (omega (arith, height)) shows stays h
  goes (set_table_depth d ∷ calls) zero n numbered [] level others links depth t height shows stays h = goes calls zero n numbered [] level others links d t height shows stays h
  goes (set_table_depth d ∷ calls) (suc k) n numbered (a ∷ above) level others links depth t height shows stays h =
      goes calls (suc k) n numbered (a ∷ above) level others links d t height shows stays h
  goes calls zero n numbered (a ∷ above) level others links depth t height shows stays h = absurd (let no : ⊥ = omega (arith, height) in no)
  goes calls (suc k) n numbered [] level others links depth t height shows stays h = absurd (let no : ⊥ = omega (arith, height) in no)

  pub level_goes : (calls : List (OnStack D A)) (s t : Stack Top) (level : Level Top) (others : Levels) (n : ℕ) →
      s.levels ≡ level ∷ others → after_all calls s ≡ done t → above_after 0 calls ≡ Some n →
      HasLevel columns decoration level.renderer (own_acts 0 (links_of level s.links) calls) n others t
  level_goes calls s t level others n is h stays =
      goes calls 0 n (let r = level.renderer in r.options.include_link_footnotes) [] level others s.links
      s.table_depth t refl refl stays (subst (λ ls. after_all calls (stack_with ls s.links s.table_depth) ≡ done t) is h)

  pub pushed_goes : (calls : List (OnStack D A)) (r : Top) (s t : Stack Top) (n : ℕ) → after_all (push r ∷ calls) s ≡ done t → above_after 0 calls ≡ Some n →
      HasLevel columns decoration r (own_acts 0 (links_of (new_level r) s.links) calls) n s.levels t
  pushed_goes calls r s t n h stays = goes calls 0 n r.options.include_link_footnotes [] (new_level r) s.levels s.links s.table_depth t refl refl stays h
