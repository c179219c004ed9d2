-- A script whose blocks and cells have two columns or more isn't too narrow.
use Rattle.script_laws.proofs.Common.{◌≡◌, ◌≤◌, ◌+◌, ℕ, Option, Some, None, Err, List, [], ◌∷◌, ap, sym, ◌∙◌, subst, arith, rules, Each, leb-true, cond_both, done, refused, if_live, Decoration}
use Rattle.script_laws.proofs.Common.{after_flush, RenderOptions, Opening, Progress, closed_text, after_line, started, Renderer, least, block_width, new_line, made, sub_renderer, Act, call, fmt_links}
use Rattle.script_laws.proofs.Common.{finalise, after_act, rendered_on, LineAsksForTwo}
use Rattle.tbr_tagged.specs.declared.Error.TheVariants as E
use Rattle.tbr_tagged.proofs.Outcomes.{live_refused}
use Rattle.tbr_decor.specs.Change as change
use Rattle.tbr_renderer.specs.Rows.{placed}
use Rattle.tbr_renderer.proofs.OutcomeParts.{run_last, refused_before, refused_first}
use Rattle.tbr_script.specs.declared.error.RunError.TheVariants.{TooNarrow}
use Rattle.text_block_renderer.specs.Acts.{row}
use Rattle.text_block_renderer.specs.Headline.{TakeTwoAtMost}
use Rattle.text_block_renderer.proofs.ActParts.{acts_along}
use Rattle.text_block_renderer.proofs.TwoColumns.{act_fits}
use Rattle.script_laws.proofs.LedRenderers.{Led, with_decorator, led_on, led_sound, nothing_came, inside_led}
use Rattle.tbr_runner.proofs.ScriptLevels.{Any, first_led, Fits, fits_walk}
use Rattle.tbr_runner.proofs.Walks.{Meets, At, IsReady, rest_meets, end_meets, line_meets}
use Rattle.tbr_model.proofs.lists.Each.{each_unmap}

-- ---- the lesser of two widths

wraps_two : (width other : ℕ) (wrap : Option ℕ) → 2 ≤ width → 2 ≤ least other wrap → 2 ≤ least width wrap
wraps_two width other None wide both = wide
wraps_two width other (Some w) wide both = search (rules, cond_both, leb-true)

-- ---- calls

module _ {D M : Type 0} (columns : ℕ → Option ℕ) (decoration : Decoration D M) (space : columns 32 ≡ Some 1) (narrow : TakeTwoAtMost columns) where
  abbrev Top : Type 0
  Top = Renderer D M (List M)

  -- acts led to it, and its blocks have two columns or more
  abbrev Two : Top → Type 0
  Two r = Led columns decoration r × (2 ≤ block_width r)

  two_on : (act : Act M) (r s : Top) → after_act columns decoration act r ≡ done s → Two r → Two s
  two_on act r s h k =
      let along = acts_along columns decoration (act ∷ []) r s (led_sound columns decoration r k.0) (run_last (after_act columns decoration) act r s h) in
      let same : block_width s ≡ block_width r = ap (λ w. least w s.options.wrap_width) along.width ∙ ap (λ (o : RenderOptions). least r.width o.wrap_width) along.options in
      (led_on columns decoration act r s h k.0, subst (λ n. 2 ≤ n) (sym same) k.1)

  two_inside : (width : ℕ) (r : Top) → 2 ≤ width → Two r → Two (sub_renderer decoration width r)
  two_inside width r wide k = (inside_led columns decoration width r (omega (arith, wide)) k.0, wraps_two width r.width r.options.wrap_width wide k.1)

  -- a flush of one with two columns isn't too narrow, whether it has refused or not
  no_flush : (r : Top) → 2 ≤ block_width r → after_flush columns r ≡ refused E.TooNarrow → ⊥
  no_flush r wide h = act_fits columns space narrow decoration (call new_line) r wide h

  -- a row that has no place isn't too narrow either
  placed_or_not : (o : Option Top) → placed o ≡ refused E.TooNarrow → ⊥
  placed_or_not None h = cc
  placed_or_not (Some s) h = cc

  -- an outcome of a live one that is done isn't
  no_done : (r s : Top) → r.failure ≡ None → if_live r.failure (done s) ≡ refused E.TooNarrow → ⊥
  no_done r s live h = let no = live_refused r.failure (done s) E.TooNarrow live h in cc no

  no_act : (r : Top) → Two r → (act : Act M) → after_act columns decoration act r ≡ refused E.TooNarrow → ⊥
  no_act r k (call c) h = act_fits columns space narrow decoration (call c) r k.1 (live_refused r.failure (made columns decoration c r) E.TooNarrow k.0.live h)
  no_act r k (row collapse cells) h = search (rules, refused_first, no_flush, live_refused, placed_or_not)
  no_act r k (fmt_links links) h = no_done r _ k.0.live h
  no_act r k (finalise targets) h = no_done r _ k.0.live h

  two_ready : (r : Top) → Two r → IsReady columns decoration ⊥ r
  two_ready r k = search (rules, no_flush, refused_before, live_refused, no_act)

  -- ---- a script

  abbrev AllTwo : Progress D M (List M) → Type 0
  AllTwo p = At columns decoration (Fits columns decoration Two Any (λ c. Two c.0)) p

  no_text : (targets : List (List ℕ)) (r : Top) → Two r → closed_text columns decoration targets r ≡ refused E.TooNarrow → ⊥
  no_text targets r k h = search (rules, refused_before, no_flush, with_decorator)

  no_lines : (p : Progress D M (List M)) (number : ℕ) (lines : List (List ℕ)) → AllTwo p → Each LineAsksForTwo lines → Meets ⊥ (λ text. Unit {0}) (rendered_on columns decoration number lines p)
  no_lines p number [] h asks =
      end_meets columns decoration ⊥ number p
      (λ r top. no_text p.stack.links r
      (first_led columns decoration Two p.stack.levels r top
      (each_unmap (λ l. l.renderer) _ Two (λ l is. is) p.stack.levels h.on_stack)))
  no_lines p number (line ∷ lines) h asks =
      let walk = fits_walk columns decoration ⊥ (λ by width. 2 ≤ width) (λ r. Unit {0}) Two Any
      (λ c. Two c.0) two_ready (λ c. two_ready c.0) (λ c. two_on (call c)) (λ act r s cells into wait. two_on act r s)
      (λ by width r wide k. (two_inside width r wide k, tt)) (λ span align r ends is by. is) in
      rest_meets ⊥ AllTwo (λ text. Unit {0}) (rendered_on columns decoration (number + 1) lines) (after_line columns decoration number line p)
      (line_meets columns decoration ⊥ (λ by width. 2 ≤ width) (λ command r. Unit {0}) _ _ walk number p line
      (λ command is. (asks.0 command is, λ ends r top. tt)) h)
      (λ next two. no_lines next (number + 1) lines two asks.1)

  pub not_too_narrow : (opening : Opening) (decorator : D) → 2 ≤ least opening.width opening.options.wrap_width → (number : ℕ) (lines : List (List ℕ)) →
      Each LineAsksForTwo lines → rendered_on columns decoration number lines (started opening decorator) ≡ Err TooNarrow → ⊥
  not_too_narrow opening decorator wide number lines asks h = search (rules, nothing_came, no_lines)
