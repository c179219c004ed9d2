-- What the lesser calls make of a renderer that hasn't failed.
use Rattle.std.specs.Prelude.{ℕ, Bool, true, false, not, ◌&&◌, if◌then◌else◌, is_none, Option, None, Some, List, []}
use Rattle.tbr_model.specs.Rule.{Event}
use Rattle.tbr_wrap.specs.Block.{any_line, takes_no_columns}
use Rattle.tbr_wrap.specs.Runs.{is_some_list}
use Rattle.tbr_tagged.specs.Outcome.{Outcome, done, refused}
use Rattle.tbr_tagged.specs.declared.Error.TheVariants.{TooNarrow}
use Rattle.tbr_renderer.specs.Outcomes.{and_then, changed}
use Rattle.tbr_renderer.specs.Renderer.{Open, Renderer, has_content, with_line, open_block, called, with_events, entries_of, ignores}
use Rattle.tbr_renderer.specs.Flush.{block_in, fits_grown, after_flush}

module _ {D A : Type 0} (columns : ℕ → Option ℕ) where
  -- an empty line, after which no block has ended
  abbrev pub with_empty_line : Renderer D A (List A) → Renderer D A (List A)
  with_empty_line r = record (with_line columns r []) { block_ended = false }

  -- An empty line comes after a flush.
  abbrev pub after_empty_line : Renderer D A (List A) → Outcome (Renderer D A (List A))
  after_empty_line r = changed with_empty_line (after_flush columns r)

  -- a block begins after an empty line, where any line has content
  abbrev pub block_started : Renderer D A (List A) → Renderer D A (List A)
  block_started r = if has_content r then with_empty_line r else record r { block_ended = false }

  -- A block begins after a flush.
  abbrev pub after_block_start : Renderer D A (List A) → Outcome (Renderer D A (List A))
  after_block_start r = changed block_started (after_flush columns r)

  -- whether no block is open, or its open line and word take no columns
  abbrev pub at_line_start : Renderer D A (List A) → Option (Open (List A)) → Bool
  at_line_start r None = true
  at_line_start r (Some b) = takes_no_columns columns (block_in r b)

  -- A line break adds an empty line at the beginning of a line, and else ends the line.
  abbrev pub after_break : Renderer D A (List A) → Outcome (Renderer D A (List A))
  after_break r = if at_line_start r r.block then after_empty_line r else after_flush columns r

  -- whether no block is open, or no line of the open one has ended, and its open line and word take no columns
  abbrev pub block_is_empty : Renderer D A (List A) → Option (Open (List A)) → Bool
  block_is_empty r None = true
  block_is_empty r (Some b) =
      let s = block_in r b in not (any_line columns s) && takes_no_columns columns s

  -- whether it hasn't failed, has no line, and its open block, if any, is empty
  abbrev pub is_empty : Renderer D A (List A) → Bool
  is_empty r = is_none r.failure && (not (is_some_list r.lines) && block_is_empty r r.block)

module _ {D A : Type 0} (columns : ℕ → Option ℕ) (preformatted : D → Bool → A) where
  -- what a text brings to the open block, or to a new one
  abbrev pub text_brings : List ℕ → Renderer D A (List A) → List (Event (List A))
  text_brings cs r = called (entries_of columns preformatted r cs)

  -- A text joins the run of the open block, where no line that has ended is wider than that, or may be.
  abbrev pub after_joining : List ℕ → Renderer D A (List A) → Outcome (Renderer D A (List A))
  after_joining cs r =
      let more = text_brings cs r in
      if fits_grown columns r (open_block r) more then done (with_events r more) else refused TooNarrow

  -- A text begins a block, and then joins its run.
  abbrev pub after_first_text : List ℕ → Renderer D A (List A) → Outcome (Renderer D A (List A))
  after_first_text cs r = and_then (after_block_start columns r) (after_joining cs)

  -- After the end of a block white space is ignored in `Normal`, and any other text begins a block.
  abbrev pub after_text : List ℕ → Renderer D A (List A) → Outcome (Renderer D A (List A))
  after_text cs r =
      if ignores r cs then done r else if r.block_ended then after_first_text cs r else after_joining cs r
