-- Renderers that go on: what is counted of a script is what they keep.
use Rattle.tbr_program.proofs.Common.{◌≡◌, ◌<◌, ℕ, zero, suc, ◌-◌, ◌==◌, Bool, true, false, Option, None, Some, List, refl, ap, sym, ◌∙◌, subst, arith, chars, false≢true, pointwise, Outcome}
use Rattle.tbr_program.proofs.Common.{done, taking, Decoration, Renderer, Settings, settings_of, coloured, uncoloured, Call, new_line, start_strikeout, end_strikeout, add_image, push_colour}
use Rattle.tbr_program.proofs.Common.{pop_colour, after, Does, GivenCell, after_row, Begun, Request, layout, end, image, colour, border, call_of, ends_nothing, counted, IsLive}
use Rattle.tbr_renderer.proofs.OutcomeParts.{taken}
use Rattle.tbr_decor.specs.Ground as ground
use Rattle.tbr_decor.specs.Ground.{Ground}
use Rattle.tbr_decor.specs.declared.colour.Colour.{Colour}
use Rattle.tbr_renderer.specs.declared.RenderOptions.{RenderOptions}
use Rattle.tbr_renderer.specs.Image.{shown_title}
use Rattle.tbr_renderer.specs.Settings.{settled, settled_by_image}
use Rattle.tbr_renderer.proofs.Settings.{preformats_after, call_beside, call_changes}
use Rattle.tbr_renderer.proofs.RowsOfCells.{row_laid, settings_stay, failure_stays}
use Rattle.tbr_commands.specs.declared.request.layout.Layout.TheVariants.{StartBlock}
use Rattle.tbr_commands.specs.declared.request.beginning.Beginning.{Beginning}
use Rattle.tbr_commands.specs.declared.request.beginning.Beginning.TheVariants as beginning
use Rattle.tbr_commands.specs.declared.request.kind.Kind.{Kind}
use Rattle.tbr_commands.specs.declared.request.kind.Kind.TheVariants as kind
use Rattle.tbr_commands.specs.Request.{begin}

-- ---- what is counted

positive : (n : ℕ) → (n == 0) ≡ false → 0 < n
positive zero e = absurd (false≢true (sym e))
positive (suc n) e = omega arith

module _ (begun : Begun) (request : Request) (some : ends_nothing begun request ≡ false) where
  pub some_preformats : request ≡ end kind.Preformat → 0 < begun.preformats
  some_preformats is = positive begun.preformats (subst (λ r. ends_nothing begun r ≡ false) is some)

  pub some_strikeouts : request ≡ end kind.Strikeout → 0 < begun.strikeouts
  some_strikeouts is = positive begun.strikeouts (subst (λ r. ends_nothing begun r ≡ false) is some)

-- ---- what the renderer keeps

module _ {D M : Type 0} (columns : ℕ → Option ℕ) (decoration : Decoration D M) where
  abbrev Preformats : ℕ → Request → Begun → Type 0
  Preformats width request begun = preformats_after columns decoration (call_of width request) begun.preformats ≡ (counted begun request).preformats

  begun_preformats : (width : ℕ) (what : Beginning) (begun : Begun) → Preformats width (begin what) begun
  begun_preformats width (beginning.Mode mode) begun = refl
  begun_preformats width other begun = refl

  ended_preformats : (width : ℕ) (what : Kind) (begun : Begun) → Preformats width (end what) begun
  ended_preformats width kind.Mode begun = refl
  ended_preformats width other begun = refl

  counted_preformats : (width : ℕ) (request : Request) (begun : Begun) → Preformats width request begun
  counted_preformats width (begin what) begun = begun_preformats width what begun
  counted_preformats width (end what) begun = ended_preformats width what begun
  counted_preformats width (layout StartBlock) begun = refl
  counted_preformats width (colour ground.text c) begun = refl
  counted_preformats width (border None) begun = refl
  counted_preformats width other begun = refl

  -- the options are as they were, and so are the strikeouts
  Unstruck : Renderer D M (List M) → Renderer D M (List M) → Type 0
  Unstruck r s = (s.options ≡ r.options) × (s.strikeouts ≡ r.strikeouts)

  unstruck_by_image : (source : List ℕ) (title : Option (List ℕ)) (r : Renderer D M (List M)) → Unstruck r (settled_by_image decoration source title r)
  unfolding Unstruck
  unstruck_by_image source None r = (refl, refl)
  unstruck_by_image source (Some title) r = (refl, refl)

  unstruck_by_colour : (g : Ground) (c : Colour) (r : Renderer D M (List M)) (o : Option M) → decoration.colour_annotation r.decorator g c ≡ o → Unstruck r (coloured decoration g c r)
  unfolding Unstruck
  unstruck_by_colour g c r None e = rw e (refl, refl)
  unstruck_by_colour g c r (Some a) e = rw e (refl, refl)

  unstruck_by_end : (g : Ground) (r : Renderer D M (List M)) (b : Bool) → decoration.ends_colour r.decorator g ≡ b → Unstruck r (uncoloured decoration g r)
  unfolding Unstruck
  unstruck_by_end g r true e = rw e (refl, refl)
  unstruck_by_end g r false e = rw e (refl, refl)

  pub settled_options : (call : Call (List M)) (r : Renderer D M (List M)) → (settled decoration call r).options ≡ r.options
  unfolding Unstruck
  settled_options start_strikeout r = grind arith
  settled_options end_strikeout r = grind arith
  settled_options (add_image source title) r = (unstruck_by_image source (shown_title r.options.img_mode source title) r).0
  settled_options (push_colour g c) r = (unstruck_by_colour g c r (decoration.colour_annotation r.decorator g c) refl).0
  settled_options (pop_colour g) r = (unstruck_by_end g r (decoration.ends_colour r.decorator g) refl).0
  settled_options call r = refl

  -- Where struck out text has strokes, the strikeouts are those that were counted.
  abbrev Strikeouts : Renderer D M (List M) → Begun → Request → Type 0
  Strikeouts r begun request =
      r.options.use_unicode_strikeout ≡ true → r.strikeouts ≡ begun.strikeouts → (settled decoration (call_of r.width request) r).strikeouts ≡ (counted begun request).strikeouts

  begun_strikeouts : (r : Renderer D M (List M)) (begun : Begun) (what : Beginning) → Strikeouts r begun (begin what)
  begun_strikeouts r begun beginning.Strikeout on e = rw on (ap suc e)
  begun_strikeouts r begun other on e = e

  ended_strikeouts : (r : Renderer D M (List M)) (begun : Begun) (what : Kind) → Strikeouts r begun (end what)
  unfolding Unstruck
  ended_strikeouts r begun kind.Strikeout on e = rw on (ap (λ n. n - 1) e)
  ended_strikeouts r begun kind.Colour on e = (unstruck_by_end ground.text r (decoration.ends_colour r.decorator ground.text) refl).1 ∙ e
  ended_strikeouts r begun kind.Background on e = (unstruck_by_end ground.background r (decoration.ends_colour r.decorator ground.background) refl).1 ∙ e
  ended_strikeouts r begun other on e = e

  counted_strikeouts : (r : Renderer D M (List M)) (begun : Begun) (request : Request) → Strikeouts r begun request
  unfolding Unstruck
  counted_strikeouts r begun (begin what) on e = begun_strikeouts r begun what on e
  counted_strikeouts r begun (end what) on e = ended_strikeouts r begun what on e
  counted_strikeouts r begun (image s t) on e = (unstruck_by_image (chars s) (shown_title r.options.img_mode (chars s) (chars t)) r).1 ∙ e
  counted_strikeouts r begun (colour ground.text c) on e = (unstruck_by_colour ground.text c r (decoration.colour_annotation r.decorator ground.text c) refl).1 ∙ e
  counted_strikeouts r begun (colour ground.background c) on e = (unstruck_by_colour ground.background c r (decoration.colour_annotation r.decorator ground.background c) refl).1 ∙ e
  counted_strikeouts r begun (layout StartBlock) on e = e
  counted_strikeouts r begun (border None) on e = e
  counted_strikeouts r begun other on e = e

  -- a request, which is counted
  pub still_live : (request : Request) (r s : Renderer D M (List M)) (begun : Begun) → IsLive r begun → Does columns decoration (call_of r.width request) r s → IsLive s (counted begun request)
  still_live request r s begun live does =
      let call = call_of r.width request in
      let after = call_beside columns decoration call r s does in
      let settings : settings_of s ≡ settings_of (settled decoration call r) = call_changes columns decoration call r s does in
      let options = ap (λ (x : Settings D M). x.kept.options) settings ∙ settled_options call r in (
        after.0 ∙ live.0,
        after.1 ∙ ap (λ n. preformats_after columns decoration call n) live.1 ∙ counted_preformats r.width request begun,
        λ on.
            let before_on = sym (ap (λ (x : RenderOptions). x.use_unicode_strikeout) options) ∙ on in
            ap (λ (x : Settings D M). x.kept.strikeouts) settings ∙ counted_strikeouts r begun request before_on (live.2 before_on),
      )

  -- a call that begins and ends no strikeout and no preformatted stretch
  pub uncounted_live : (call : Call (List M)) (r s : Renderer D M (List M)) (begun : Begun) →
      ((x : Renderer D M (List M)) → (settled decoration call x).strikeouts ≡ x.strikeouts) → ((n : ℕ) → preformats_after columns decoration call n ≡ n) →
      IsLive r begun → Does columns decoration call r s → IsLive s begun
  uncounted_live call r s begun strikes counts live does =
      let after = call_beside columns decoration call r s does in
      let settings : settings_of s ≡ settings_of (settled decoration call r) = call_changes columns decoration call r s does in
      let options = ap (λ (x : Settings D M). x.kept.options) settings ∙ settled_options call r in (
        after.0 ∙ live.0,
        after.1 ∙ counts r.preformatted ∙ live.1,
        λ on. ap (λ (x : Settings D M). x.kept.strikeouts) settings ∙ strikes r ∙ live.2 (sym (ap (λ (x : RenderOptions). x.use_unicode_strikeout) options) ∙ on),
      )

  -- a row of cells side by side
  pub row_live : (collapse : Bool) (cells : List (GivenCell (List M))) (r s : Renderer D M (List M)) (begun : Begun) →
      IsLive r begun → after_row (pointwise decoration.same) columns collapse cells r ≡ done s → IsLive s begun
  row_live collapse cells r s begun live does =
      let lays = row_laid (pointwise decoration.same) columns collapse cells r s does in
      let same : settings_of s ≡ settings_of r = settings_stay columns r s lays in (
        failure_stays columns r s lays ∙ live.0,
        ap (λ (x : Settings D M). x.kept.preformatted) same ∙ live.1,
        λ on. ap (λ (x : Settings D M). x.kept.strikeouts) same ∙ live.2 (sym (ap (λ (x : Settings D M). x.kept.options.use_unicode_strikeout) same) ∙ on),
      )

  -- what others give
  pub taken_live : {X : Type 0} (given : Outcome X)
      (take : X → Renderer D M (List M) → Outcome (Renderer D M (List M))) (begun : Begun) →
      ((x : X) (r s : Renderer D M (List M)) → IsLive r begun → take x r ≡ done s → IsLive s begun) →
      (r s : Renderer D M (List M)) → IsLive r begun → taking (after columns decoration new_line) given take r ≡ done s → IsLive s begun
  taken_live given take begun on r s live takes = grind (arith, taken)
