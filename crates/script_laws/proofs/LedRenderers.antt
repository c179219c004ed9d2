-- Each renderer of a script is led to by calls and rows.
use Rattle.script_laws.proofs.Common.{◌≡◌, ◌≢◌, ◌<◌, ◌+◌, inl, inr, Ok, ℕ, Bool, true, false, if◌then◌else◌, Option, Some, None, List, [], ◌∷◌, ◌++◌, flat_map, fold, refl, ap, sym, ◌∙◌, subst, arith}
use Rattle.script_laws.proofs.Common.{rules, Item, done, refused, Decoration, changed, Opening, opening_read, Command, top_of, Progress, with_notes, footnotes_of, lines_closed, closed_text, Decorator}
use Rattle.script_laws.proofs.Common.{Plain, Trivial, Rich, RenderOptions, block_lines, lines_at_end, names_at_end, fits_at_end, flushed, after_block, after_flush, lines_of, AllZip, encode_utf8_all}
use Rattle.script_laws.proofs.Common.{rendered_on, rendered, handed_out, NotACommand, after_line, ended, started, Open, Renderer, IsSound, with_line, has_content, new_line, start_block, after}
use Rattle.script_laws.proofs.Common.{sub_renderer, Act, call, row_of_cells, fmt_links, finalise, after_act, stack_calls, link_targets, AskFor, AskAfterFirst, LinesDo, IsFresh, IsLed, AreLed}
use Rattle.script_laws.proofs.Common.{IsTextOfLed, IsTextOfScript}
use Rattle.tbr_runner.specs.Scripts.{shown_under, shown_by, shown_from}
use Rattle.std.specs.Cmp.Lexicographic.{pointwise}
use Rattle.tbr_renderer.proofs.OutcomeParts.{one_done, done_before}
use Rattle.tbr_commands.specs.Opening.{IsOpening}
use Rattle.tbr_commands.proofs.Reading.{read_opening}
use Rattle.tbr_program.specs.Decorations.{plain_decoration, trivial_decoration, rich_decoration}
use Rattle.tbr_commands.specs.declared.options.Setting.{Setting}
use Rattle.tbr_commands.specs.declared.options.Setting.TheVariants.{Wrap}
use Rattle.tbr_commands.specs.Options.{IsSetting, with_setting, AreOptions}
use Rattle.tbr_renderer.specs.Options.{default_options}
use Rattle.tbr_renderer.specs.Footnotes.{listed, footnote_lines, with_footnotes}
use Rattle.tbr_renderer.specs.Steps.{with_empty_line, block_started, after_block_start}
use Rattle.tbr_renderer.proofs.FlushedBlocks.{flushes, flush_keeps}
use Rattle.tbr_renderer.proofs.SettingsStay.{lines_added}
use Rattle.tbr_tagged.proofs.Outcomes.{live_done, live_goes}
use Rattle.tbr_tagged.specs.declared.Error.TheVariants.{TooNarrow}
use Rattle.tbr_tagged.specs.Elements.{Element}
use Rattle.tbr_decor.specs.Change as change
use Rattle.text_block_renderer.specs.Text.{lines_text}
use Rattle.tbr_renderer.proofs.Settings.{call_beside}
use Rattle.tbr_renderer.proofs.RowsOfCells.{row_laid, failure_stays}
use Rattle.tbr_program.proofs.CommandParts.{none_are, of_top, answer_done}
use Rattle.text_block_renderer.proofs.ActSteps.{acts_then}
use Rattle.tbr_renderer.proofs.FlushedBlocks.{lines_beside, flushed_none}
use Rattle.text_block_renderer.proofs.SoundRenderers.{new_sound, inside_sound, acts_sound}
use Rattle.text_block_renderer.proofs.LinkNumbers.{targets_come}
use Rattle.tbr_runner.proofs.ScriptLevels.{first_led, line_keeps}
use Rattle.script_laws.proofs.StackCalls.{lines_step, lines_end}

if_map : {X Y : Type 0} (f : X → Y) (b : Bool) (x y : X) → f (if b then x else y) ≡ (if b then f x else f y)
if_map f true x y = refl
if_map f false x y = refl

module _ {D M : Type 0} (columns : ℕ → Option ℕ) (decoration : Decoration D M) where
  abbrev pub Top : Type 0
  Top = Renderer D M (List M)

  abbrev pub Led : Top → Type 0
  Led r = IsLed columns decoration r

  -- ---- one act more

  act_live : (act : Act M) (r s : Top) → after_act columns decoration act r ≡ done s → s.failure ≡ r.failure
  act_live (call c) r s h = (call_beside columns decoration c r s h).0
  act_live (row_of_cells collapses cells) r s h = failure_stays columns r s (row_laid (pointwise decoration.same) columns collapses cells r s h)
  act_live (fmt_links links) r s h = search (rules, live_done, one_done, lines_added)
  act_live (finalise targets) r s h = search (rules, one_done, live_done)

  pub led_on : (act : Act M) (r s : Top) → after_act columns decoration act r ≡ done s → Led r → Led s
  led_on act r s h k = record {
    first = k.first;
    fresh = k.fresh;
    sound = k.sound;
    acts = k.acts ++ act ∷ [];
    leads = (acts_then columns decoration k.acts act k.first r s [] k.leads h).0;
    live = act_live act r s h ∙ k.live;
  }

  -- such a renderer is sound
  pub led_sound : (r : Top) → Led r → IsSound columns r
  led_sound r k = acts_sound columns decoration k.acts k.first r k.sound k.leads

  -- ---- renderers to which nothing has come

  pub nothing_came : (r : Top) → IsFresh r → IsSound columns r → r.failure ≡ None → Led r
  nothing_came r fresh sound live = record { first = r; fresh = fresh; sound = sound; acts = []; leads = refl; live = live }

  pub inside_led : (width : ℕ) (r : Top) → 0 < width → Led r → Led (sub_renderer decoration width r)
  inside_led width r wide k =
      nothing_came (sub_renderer decoration width r)
      (record { lines = refl; block = refl; waiting = refl; hanging = refl })
      (inside_sound columns decoration width r wide (led_sound r k)) refl

  -- ---- such renderers

  pub line_led : (p next : Progress D M (List M)) (number : ℕ) (line : List ℕ) → AreLed columns decoration p → after_line columns decoration number line p ≡ Ok next → AreLed columns decoration next
  line_led = line_keeps columns decoration Led led_on inside_led

  -- ---- the text

  -- another decorator changes no line
  abbrev pub with_decorator : D → Top → Top
  with_decorator d r = record r { decorator = d }

  lines_alike : (d : D) (ts : List (List (Item (List M)))) (r : Top) → fold (with_line columns) (with_decorator d r) ts ≡ with_decorator d (fold (with_line columns) r ts)
  lines_alike d [] r = refl
  lines_alike d (t ∷ ts) r = lines_alike d ts (with_line columns r t)

  block_alike : (d : D) (r : Top) (o : Option (Open (List M))) → after_block columns (with_decorator d r) o ≡ changed (with_decorator d) (after_block columns r o)
  block_alike d r None = refl
  block_alike d r (Some b) =
      ap
      (λ (s : Top). if fits_at_end columns r b then done
      (record s { waiting = s.waiting ++ names_at_end columns r b }) else refused TooNarrow)
      (lines_alike d (block_lines columns r b (lines_at_end columns r b)) (record r { block = None }))
      ∙ sym
      (if_map (changed (with_decorator d)) (fits_at_end columns r b)
      (done (flushed columns r (block_lines columns r b (lines_at_end columns r b)) (names_at_end columns r b)))
      (refused TooNarrow))

  notes_alike : (d : D) (notes : List (List (Element M))) (r : Top) → (let s = with_notes columns notes (with_decorator d r) in s.lines) ≡ (let s = with_notes columns notes r in s.lines)
  notes_alike d [] r = refl
  notes_alike d (note ∷ notes) r =
      ap (λ (q : Top). let s = with_footnotes columns q (note ∷ notes) in s.lines) (sym (if_map (with_decorator d) (has_content r) (with_empty_line columns r) (record r { block_ended = false })))
      ∙ ap (λ (s : Top). s.lines) (lines_alike d (flat_map (footnote_lines columns (block_started columns r)) (note ∷ notes)) (block_started columns r))

  -- footnotes after a flush
  noted_led : (notes : List (List (Element M))) (r : Top) → r.block ≡ None → Led r → Led (with_notes columns notes r)
  noted_led [] r none k = k
  noted_led (note ∷ notes) r none k =
      let q : Top = block_started columns r in
      let starts : after columns decoration start_block r ≡ done q =
      live_goes r.failure (after_block_start columns r) k.live
      ∙ ap (λ (o : Option (Open (List M))). changed (block_started columns) (after_block columns r o)) none in
      let begun = led_on (call start_block) r q starts k in
      led_on (fmt_links (note ∷ notes)) q (with_footnotes columns q (note ∷ notes)) (live_goes q.failure (done (with_footnotes columns q (note ∷ notes))) begun.live) begun

  -- the text of the lines after a flush, and of the footnotes
  pub closed_is : (targets : List (List ℕ)) (r : Top) (text : List ℕ) → closed_text columns decoration targets r ≡ done text →
      (m : Top) × (after_flush columns r ≡ done m) × (text ≡ encode_utf8_all (lines_text (let s = with_notes columns (footnotes_of columns decoration targets m) m in s.lines)))
  closed_is targets r text h =
      let d = decoration.after r.decorator (change.finalise (listed r.options targets)) in
      let notes = footnotes_of columns decoration targets r in
      let (lines, made, is) = done_before (λ ls. encode_utf8_all (lines_text ls)) (lines_closed columns decoration targets r) text h in
      let (s, ended, are) = done_before (λ (q : Top). let t = with_notes columns notes q in t.lines) (after_flush columns (with_decorator d r)) lines made in
      let (m, first, same) = done_before (with_decorator d) (after_flush columns r) s (sym (block_alike d r r.block) ∙ ended) in
      let stay = flush_keeps columns r m (footnotes_of columns decoration targets)
      (λ texts names. ap (λ (q : Top). footnotes_of columns decoration targets q)
      (lines_beside columns texts (record r { block = None }))) first in (
        m,
        first,
        is ∙ ap (λ ls. encode_utf8_all (lines_text ls)) (are ∙ ap (λ (q : Top). let t = with_notes columns notes q in t.lines) same ∙ notes_alike d notes m)
            ∙ ap (λ (ns : List (List (Element M))). encode_utf8_all (lines_text (let t = with_notes columns ns m in t.lines))) (sym stay),
      )

  pub closed_led : (targets : List (List ℕ)) (r : Top) (text : List ℕ) → Led r → closed_text columns decoration targets r ≡ done text →
      (of : IsTextOfLed columns decoration targets text) × (handed_out columns r ≡ done (let m = of.renderer in m.lines))
  closed_led targets r text k h =
      let (m, first, is) = closed_is targets r text h in
      let led = led_on (call new_line) r m (live_goes r.failure (after_flush columns r) k.live ∙ first) k in
      let whole = flushed_none columns r m (flushes columns r m first) in (
        record { renderer = m; led = led; whole = whole; noted = noted_led (footnotes_of columns decoration targets m) m whole led; is = is },
        live_goes r.failure (changed (λ (q : Top). q.lines) (after_flush columns r)) k.live ∙ ap (changed (λ (q : Top). q.lines)) first,
      )

  lines_led : (number : ℕ) (lines : List (List ℕ)) (p q : Progress D M (List M)) → AreLed columns decoration p → LinesDo columns decoration p number lines q → AreLed columns decoration q
  lines_led number [] p q h same = subst (AreLed columns decoration) (sym same) h
  lines_led number (line ∷ lines) p q h (next, does, lead) = lines_led (number + 1) lines next q (line_led p next number line h does) lead

  -- the renderer whose text the end gives
  pub at_end : (number : ℕ) (p : Progress D M (List M)) (text : List ℕ) → ended columns decoration number p ≡ Ok text →
      (r : Top) × (top_of p.stack ≡ Some r) × (closed_text columns decoration p.stack.links r ≡ done text) × (p.opened ≡ []) × (p.pending.cells ≡ [])
  at_end number p text is =
      let (none_open, first) = none_are p.opened (NotACommand number) _ (Ok text) (λ no. no) tt is in
      let (none_wait, next) = none_are p.pending.cells (NotACommand number) _ (Ok text) (λ no. no) tt first in
      let (r, top, gives) = of_top (top_of p.stack) _ (Ok text) tt next in
      (r, top, answer_done (closed_text columns decoration p.stack.links r) text gives, none_open, none_wait)

  -- it comes of the script's own renderer, after all lines
  pub text_led : (p : Progress D M (List M)) (number : ℕ) (lines : List (List ℕ)) (text : List ℕ) → AreLed columns decoration p → rendered_on columns decoration number lines p ≡ Ok text →
      (commands : List Command) × AskFor lines commands × IsTextOfLed columns decoration (p.stack.links ++ link_targets commands) text
  text_led p number lines text h gives =
      let end = lines_end columns decoration p number lines text gives in
      let there = end.there in
      let (r, top, is, none_open, none_wait) = at_end end.last there text end.ends in
      let (led, gives_it) = closed_led there.stack.links r text (first_led columns decoration Led there.stack.levels r top (let all = lines_led number lines p there h end.lead in all.on_stack)) is in
      let steps = lines_step columns decoration number lines end.commands p there end.ask end.lead in
      (end.commands, end.ask, subst (λ ts. IsTextOfLed columns decoration ts text) (targets_come columns decoration (stack_calls end.commands) p.stack there.stack steps) led)

  pub started_led : columns 32 ≡ Some 1 → (opening : Opening) (decorator : D) → 0 < opening.width → opening.options.wrap_width ≢ Some 0 → AreLed columns decoration (started {M = M} opening decorator)
  started_led space opening decorator wide some = search (rules, nothing_came, new_sound)

-- ---- a whole script

module _ (columns : ℕ → Option ℕ) (space : columns 32 ≡ Some 1) where
  setting_wraps : (word : List ℕ) (setting : Setting) (options : RenderOptions) → IsSetting word setting → options.wrap_width ≢ Some 0 → (let o = with_setting options setting in o.wrap_width) ≢ Some 0
  setting_wraps word (Wrap n) options is some = λ none. let zero_is : n ≡ 0 = cc none in omega (arith, is.2.2, zero_is)
  setting_wraps word other options is some = some

  some_wrap : (words : List (List ℕ)) (settings : List Setting) (options : RenderOptions) → AllZip IsSetting words settings → options.wrap_width ≢ Some 0 →
      (let o = fold with_setting options settings in o.wrap_width) ≢ Some 0
  some_wrap [] [] options all some = some
  some_wrap [] (s ∷ ss) options all some = elim all [ ]
  some_wrap (w ∷ ws) [] options all some = elim all [ ]
  some_wrap (w ∷ ws) (s ∷ ss) options all some = some_wrap ws ss (with_setting options s) all.1 (setting_wraps w s options all.0 some)

  wraps : (words : List (List ℕ)) (options : RenderOptions) → AreOptions words options → options.wrap_width ≢ Some 0
  wraps words options (settings, all, is) = subst (λ (o : RenderOptions). o.wrap_width ≢ Some 0) (sym is) (some_wrap words settings default_options all (λ none. cc))

  begun_led : {D M : Type 0} (decoration : Decoration D M) (decorator : D) (opening : Opening) (number : ℕ) (lines : List (List ℕ)) (text : List ℕ) → 0 < opening.width →
      opening.options.wrap_width ≢ Some 0 →
      rendered_on columns decoration number lines (started opening decorator) ≡ Ok text →
      (commands : List Command) × AskFor lines commands × IsTextOfLed columns decoration (link_targets commands)
      text
  begun_led decoration decorator opening number lines text wide some h =
      text_led columns decoration (started opening decorator) number lines text
      (started_led columns decoration space opening decorator wide some) h

  under_led : (decorator : Decorator) (opening : Opening) (number : ℕ) (lines : List (List ℕ)) (text : List ℕ) → 0 < opening.width → opening.options.wrap_width ≢ Some 0 →
      shown_under true columns decorator opening number lines ≡ Ok text →
      (commands : List Command) × AskFor lines commands × IsTextOfScript columns (link_targets commands) text
  under_led Plain opening number lines text wide some h = let (commands, asks, led) = begun_led plain_decoration (record {}) opening number lines text wide some h in (commands, asks, inl led)
  under_led Trivial opening number lines text wide some h = let (commands, asks, led) =
      begun_led trivial_decoration (record {}) opening number lines text wide some h in (commands, asks, inr (inl led))
  under_led Rich opening number lines text wide some h = let (commands, asks, led) = begun_led rich_decoration (record {}) opening number lines text wide some h in (commands, asks, inr (inr led))

  begins_led : (number : ℕ) (lines : List (List ℕ)) (text : List ℕ) → shown_from true columns number lines ≡ Ok text →
      (commands : List Command) × AskAfterFirst lines commands × IsTextOfScript columns (link_targets commands) text
  begins_led number [] text h = cc
  begins_led number ([] ∷ lines) text h = begins_led (number + 1) lines text h
  begins_led number ((b ∷ bs) ∷ lines) text h = read_led (opening_read (b ∷ bs)) (read_opening (b ∷ bs)) h
    where
      read_led : (read : Option Opening) → ((opening : Opening) → read ≡ Some opening → IsOpening (b ∷ bs) opening) → shown_by true columns read number lines ≡ Ok text →
          (commands : List Command) × AskFor lines commands × IsTextOfScript columns (link_targets commands) text
      read_led None is h = cc
      read_led (Some opening) is h =
          let asked = is opening refl in
          let (digits, words, are, size, options) = asked.asks in
          under_led opening.decorator opening (number + 1) lines text size.2 (wraps words opening.options options) h

  pub script_led : (script text : List ℕ) → rendered columns script ≡ Ok text →
      (commands : List Command) × AskAfterFirst (lines_of script) commands × IsTextOfScript columns (link_targets commands) text
  script_led script text h = begins_led 1 (lines_of script) text h
