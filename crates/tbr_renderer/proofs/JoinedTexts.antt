-- Text that joins the run of a block.
use Rattle.tbr_renderer.proofs.Common.{◌≡◌, ℕ, not, Bool, true, false, is_none, Option, None, Some, unwrap_or, Result, Err, List, [], ◌∷◌, ◌++◌, refl, ap, sym, ◌∙◌, subst, arith, OnOk}
use Rattle.tbr_renderer.proofs.Common.{on_ok_weaker, WhiteSpace, marker_entry, Event, entry, run_of, text_leaves, sound_text, Error, Block, any_line, lines, takes_no_columns, allows}
use Rattle.tbr_renderer.proofs.Common.{text_events, grown, done, refused, Open, Renderer, open_block, text_annotations, last_mode, called, with_events, block_width, may_overflow, IsFresh}
use Rattle.tbr_renderer.proofs.Common.{Writes, block_seen, open_seen, fits_grown}
use Rattle.std.proofs.Common.{◌&&◌}
use Rattle.tbr_model.specs.Run.{Entry}
use Rattle.tbr_model.proofs.rule.HardLines.{run_of-append}
use Rattle.tbr_wrap.proofs.runs.BlockLaws.{marker_leaves, sound_marked}
use Rattle.tbr_tagged.specs.declared.Error.TheVariants as E
use Rattle.tbr_wrap.specs.Block.{after_text, after_marker, IsSound}
use Rattle.tbr_renderer.specs.Renderer.{new_block, open_run, entries_under, with_more}
use Rattle.tbr_renderer.specs.Steps.{at_line_start, block_is_empty}
use Rattle.tbr_renderer.proofs.OpenBlocks.{fits_grown_seen, line_start_seen, any_line_seen, text_narrow}

-- a fresh block whose run has grown
pub fresh_grown : {T : Type 0} (columns : ℕ → Option ℕ) (width : ℕ) (overflows : Bool) (old new : Block T)
    (es : List (Event T)) → new ≡ grown old es → IsSound columns new → IsFresh columns width overflows old → IsFresh columns width overflows new
fresh_grown {T} columns width overflows old new es is sound fresh = grind arith

-- what the block is then
grown_seen : {T : Type 0} (old new : Block T) (es : List (Event T)) → new ≡ grown old es → open_seen new ≡ with_more (open_seen old) es
grown_seen {T} old new es is = grind arith

module _ {D A : Type 0} (columns : ℕ → Option ℕ) (q : Renderer D A (List A)) (old : Block (List A))
    (fresh : IsFresh columns (block_width q) (may_overflow q) old) (cs : List ℕ) (v w : List A) (mode : WhiteSpace) (preformatted : D → Bool → A)
    (main : v ≡ text_annotations preformatted false q) (continued : w ≡ text_annotations preformatted true q) (is_mode : mode ≡ last_mode q.modes) where
  abbrev es : List (Event (List A))
  es = called (entries_under preformatted q cs)

  events_are : text_events cs v w mode ≡ es
  events_are = λ i. text_events cs (main i) (continued i) (is_mode i)

  module _ (new : Block (List A)) (e : after_text columns cs v w mode old ≡ done new) where
    pub written : open_seen new ≡ with_more (open_seen old) es
    written = grown_seen old new es (text_leaves columns old new cs v w mode e ∙ ap (grown old) events_are)

    pub goes_on : fits_grown columns q (open_seen old) es ≡ true
    goes_on =
        ap (fits_grown columns q (open_seen old)) (sym events_are) ∙ fits_grown_seen columns q old fresh (text_events cs v w mode)
        ∙ subst (λ (b : Block (List A)). allows columns b (lines columns b) ≡ true) (text_leaves columns old new cs v w mode e) (sound_text columns old fresh.sound new cs v w mode e).allowed

  pub stops : after_text columns cs v w mode old ≡ refused E.TooNarrow → fits_grown columns q (open_seen old) es ≡ false
  stops e =
      ap (fits_grown columns q (open_seen old)) (sym events_are) ∙ fits_grown_seen columns q old fresh (text_events cs v w mode)
      ∙ text_narrow columns old (ap (λ (b : Block (List A)). b.failure) fresh.is) cs v w mode e

  -- what is written where a block answers so
  pub writes : {R : Type 0} (result : Result R Error) (new : Block (List A)) → OnOk result (after_text columns cs v w mode old ≡ done new) →
      (result ≡ Err E.TooNarrow → after_text columns cs v w mode old ≡ refused E.TooNarrow) → Writes columns q es old result new
  writes result new ok narrow = record {
    written = on_ok_weaker result (written new) ok;
    goes_on = on_ok_weaker result (goes_on new) ok;
    too_narrow = λ e. stops (narrow e);
  }

-- the run of the open block, or of a new one
pub open_run_is : {D A : Type 0} (r : Renderer D A (List A)) → run_of (open_block r).events ≡ open_run r.block
open_run_is {D} {A} r = go r.block
  where
    go : (o : Option (Open (List A))) → run_of (unwrap_or o (new_block r)).events ≡ open_run o
    go None = refl
    go (Some b) = refl

-- and that run with what joins it
pub run_joined : {D A : Type 0} (r : Renderer D A (List A)) (es : List (Event (List A))) → run_of ((open_block r).events ++ es) ≡ open_run r.block ++ run_of es
run_joined {D} {A} r es = run_of-append (open_block r).events es ∙ ap (λ (run : List (Entry (List A))). run ++ run_of es) (open_run_is r)

-- ---- markers

module _ {T : Type 0} (columns : ℕ → Option ℕ) (width : ℕ) (overflows : Bool) (old new : Block T) (name : List ℕ) (e : after_marker name old ≡ done new) where
  pub fresh_marked : IsFresh columns width overflows old → IsFresh columns width overflows new
  fresh_marked fresh = fresh_grown columns width overflows old new (entry (marker_entry name) ∷ []) (marker_leaves columns old new name e) (sound_marked columns old fresh.sound new name e) fresh

  pub marked : open_seen new ≡ with_more (open_seen old) (entry (marker_entry name) ∷ [])
  marked = grown_seen old new (entry (marker_entry name) ∷ []) (marker_leaves columns old new name e)

-- a renderer to whose block more has come
pub block_grown : {D A : Type 0} (r taken put : Renderer D A (List A)) (old new : Block (List A)) (es : List (Event (List A))) → taken ≡ record r { block = None } → open_seen old ≡ open_block r →
    open_seen new ≡ with_more (open_seen old) es → put ≡ record taken { block = block_seen (Some new) } → put ≡ with_events r es
block_grown {D} {A} r taken put old new es emptied before is put_is = grind arith

-- ---- the beginning of a line, and empty blocks

module _ {D A : Type 0} (columns : ℕ → Option ℕ) (r : Renderer D A (List A)) (b : Block (List A))
    (opens : (block_seen (Some b) ≡ r.block) × IsFresh columns (block_width r) (may_overflow r) b) where
  pub line_start : (q : Block (List A)) → q ≡ b → (at : Bool) → at ≡ is_none q.failure && takes_no_columns columns q → at ≡ at_line_start columns r r.block
  line_start q is at asked =
      asked ∙ ap (λ (s : Block (List A)). is_none s.failure && takes_no_columns columns s) is
      ∙ ap (λ (o : Option Error). is_none o && takes_no_columns columns b) (ap (λ (s : Block (List A)). s.failure) opens.1.is)
      ∙ sym (line_start_seen columns r b opens.1) ∙ ap (λ (o : Option (Open (List A))). at_line_start columns r o) opens.0

  pub block_empty : (q : Block (List A)) → q ≡ b → (empty : Bool) → empty ≡ is_none q.failure && (not (any_line columns q) && takes_no_columns columns q) → empty ≡ block_is_empty columns r r.block
  block_empty q is empty asked =
      asked ∙ ap (λ (s : Block (List A)). is_none s.failure && (not (any_line columns s) && takes_no_columns columns s)) is
      ∙ ap (λ (o : Option Error). is_none o && (not (any_line columns b) && takes_no_columns columns b)) (ap (λ (s : Block (List A)). s.failure) opens.1.is)
      ∙ (λ i. not (sym (any_line_seen columns r b opens.1) i) && sym (line_start_seen columns r b opens.1) i)
      ∙ ap (λ (o : Option (Open (List A))). block_is_empty columns r o) opens.0
