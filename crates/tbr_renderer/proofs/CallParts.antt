-- What a call that succeeds is made of.
use Rattle.tbr_renderer.proofs.Common.{◌≡◌, ℕ, Bool, true, false, if◌then◌else◌, Option, None, Some, List, Line, End, Decoration, done, live_done, Renderer, without_annotation, open_block}
use Rattle.tbr_renderer.proofs.Common.{with_events, ignores, changed, fits_grown, after_flush, with_empty_line, after_empty_line, block_started, after_block_start, after_joining}
use Rattle.tbr_renderer.proofs.Common.{after_first_text, after_text, asked_to_close, annotated, after_end, after_titled, handed_out}
use Rattle.tbr_decor.specs.Start as start
use Rattle.tbr_renderer.specs.Steps.{text_brings}
use Rattle.tbr_renderer.proofs.OutcomeParts.{one_done, done_first, done_before, if_fits}
use Rattle.tbr_renderer.proofs.FlushedBlocks.{Flushes, flushes}

module _ {D A : Type 0} (columns : ℕ → Option ℕ) where
  -- A flush, and then a change of what it left.
  abbrev pub FlushesThen : {X : Type 0} → (Renderer D A (List A) → X) → Renderer D A (List A) → X → Type 0
  FlushesThen change r x = (m : Renderer D A (List A)) × Flushes columns r m × (x ≡ change m)

  pub flushed_then : {X : Type 0} (change : Renderer D A (List A) → X) (r : Renderer D A (List A)) (x : X) → changed change (after_flush columns r) ≡ done x → FlushesThen change r x
  flushed_then change r x h = let (m, flush, is) = done_before change (after_flush columns r) x h in (m, flushes columns r m flush, is)

  pub handed_then : (r : Renderer D A (List A)) (lines : List (Line (List A))) → handed_out columns r ≡ done lines → FlushesThen (λ (m : Renderer D A (List A)). m.lines) r lines
  handed_then r lines h = flushed_then (λ (m : Renderer D A (List A)). m.lines) r lines (live_done r.failure (changed (λ (m : Renderer D A (List A)). m.lines) (after_flush columns r)) lines h).1

  -- A line break, at the beginning of a line or not.
  abbrev pub BreaksLine : Bool → Renderer D A (List A) → Renderer D A (List A) → Type 0
  BreaksLine true r s = FlushesThen (with_empty_line columns) r s
  BreaksLine false r s = Flushes columns r s

  pub break_parts : (at : Bool) (r s : Renderer D A (List A)) → (if at then after_empty_line columns r else after_flush columns r) ≡ done s → BreaksLine at r s
  break_parts true r s h = flushed_then (with_empty_line columns) r s h
  break_parts false r s h = flushes columns r s h

  module _ (preformatted : D → Bool → A) where
    -- A text joins the open run, or begins a block first, or is ignored.
    abbrev pub JoinsText : List ℕ → Renderer D A (List A) → Renderer D A (List A) → Type 0
    JoinsText cs r s = s ≡ with_events r (text_brings columns preformatted cs r)

    abbrev pub AddsTextBy : Bool → Bool → List ℕ → Renderer D A (List A) → Renderer D A (List A) → Type 0
    AddsTextBy true ended cs r s = s ≡ r
    AddsTextBy false true cs r s = (m : Renderer D A (List A)) × FlushesThen (block_started columns) r m × JoinsText cs m s
    AddsTextBy false false cs r s = JoinsText cs r s

    abbrev pub AddsText : List ℕ → Renderer D A (List A) → Renderer D A (List A) → Type 0
    AddsText cs r s = AddsTextBy (ignores r cs) r.block_ended cs r s

    joined : (cs : List ℕ) (r s : Renderer D A (List A)) → after_joining columns preformatted cs r ≡ done s → JoinsText cs r s
    joined cs r s h = let more = text_brings columns preformatted cs r in (if_fits (fits_grown columns r (open_block r) more) (with_events r more) s h).1

    text_by : (ignored ended : Bool) (cs : List ℕ) (r s : Renderer D A (List A)) →
        (if ignored then done r else if ended then after_first_text columns preformatted cs r else after_joining columns preformatted cs r) ≡ done s → AddsTextBy ignored ended cs r s
    text_by true ended cs r s h = one_done r s h
    text_by false false cs r s h = joined cs r s h
    text_by false true cs r s h =
        let (m, starts, joins) = done_first (after_block_start columns r) (after_joining columns preformatted cs) s h in
        (m, flushed_then (block_started columns) r m starts, joined cs m s joins)

    pub text_parts : (cs : List ℕ) (r s : Renderer D A (List A)) → after_text columns preformatted cs r ≡ done s → AddsText cs r s
    text_parts cs r s h = text_by (ignores r cs) r.block_ended cs r s h

  module _ (decoration : Decoration D A) where
    -- What is closed, and an image.
    abbrev pub Closes : End → Renderer D A (List A) → Renderer D A (List A) → Type 0
    Closes e r t = (m : Renderer D A (List A)) × AddsText decoration.preformatted (decoration.end_text r.decorator e) (asked_to_close decoration e r) m × (t ≡ without_annotation m)

    pub close_parts : (e : End) (r t : Renderer D A (List A)) → after_end columns decoration e r ≡ done t → Closes e r t
    close_parts e r t h =
        let cs = decoration.end_text r.decorator e in
        let (m, adds, is) = done_before (λ (s : Renderer D A (List A)). without_annotation s) (after_text columns decoration.preformatted cs (asked_to_close decoration e r)) t h in
        (m, text_parts decoration.preformatted cs (asked_to_close decoration e r) m adds, is)

    -- What is opened, and then a change.
    abbrev pub OpensThen : start.Start → (Renderer D A (List A) → Renderer D A (List A)) → Renderer D A (List A) → Renderer D A (List A) → Type 0
    OpensThen s change r t = (m : Renderer D A (List A)) × AddsText decoration.preformatted (decoration.start_text r.decorator s) (annotated decoration s r) m × (t ≡ change m)

    pub open_parts : (s : start.Start) (change : Renderer D A (List A) → Renderer D A (List A)) (r t : Renderer D A (List A)) →
        changed change (after_text columns decoration.preformatted (decoration.start_text r.decorator s) (annotated decoration s r)) ≡ done t → OpensThen s change r t
    open_parts s change r t h =
        let cs = decoration.start_text r.decorator s in
        let (m, adds, is) = done_before change (after_text columns decoration.preformatted cs (annotated decoration s r)) t h in
        (m, text_parts decoration.preformatted cs (annotated decoration s r) m adds, is)

    abbrev pub AddsImage : List ℕ → Option (List ℕ) → Renderer D A (List A) → Renderer D A (List A) → Type 0
    AddsImage source None r t = t ≡ r
    AddsImage source (Some title) r t = OpensThen (start.image source title) (λ (s : Renderer D A (List A)). without_annotation s) r t

    pub image_parts : (source : List ℕ) (title : Option (List ℕ)) (r t : Renderer D A (List A)) → after_titled columns decoration source title r ≡ done t → AddsImage source title r t
    image_parts source None r t h = one_done r t h
    image_parts source (Some title) r t h = open_parts (start.image source title) (λ (s : Renderer D A (List A)). without_annotation s) r t h
