-- Open blocks of renderers.
use Rattle.tbr_renderer.proofs.Common.{◌≡◌, ℕ, ◌<◌, true, false, Option, None, Some, List, ◌++◌, refl, ap, sym, arith, Event, run_of, Block, lines, all_lines, allows, grown, text_events}
use Rattle.tbr_renderer.proofs.Common.{any_line, takes_no_columns, refused, WhiteSpace, EndsRun, Open, Renderer, block_width, may_overflow, open_seen, IsFresh, fits_grown, lines_at_end}
use Rattle.tbr_renderer.proofs.Common.{names_at_end, fits_at_end}
use Rattle.tbr_wrap.specs.Block.{waiting_names, flushed, after_text, after_flush}
use Rattle.tbr_tagged.proofs.Outcomes.{live_refused}
use Rattle.tbr_wrap.proofs.runs.Blocks.{if_allowed, if_not_allowed}
use Rattle.tbr_wrap.proofs.runs.BlockLaws.{flush_ends, flush_wide, text_wide}
use Rattle.tbr_tagged.specs.declared.Error.TheVariants as E
use Rattle.tbr_wrap.specs.Runs.{text_entries, CharactersFit}
use Rattle.tbr_renderer.specs.Flush.{block_in}
use Rattle.tbr_renderer.proofs.OutcomeParts.{refused_if_not}

-- ---- what refuses

module _ {A : Type 0} (columns : ℕ → Option ℕ) (s : Block A) (live : s.failure ≡ None) where
  pub flush_narrow : after_flush columns s ≡ refused E.TooNarrow → allows columns s (all_lines columns s) ≡ false
  flush_narrow e = refused_if_not (allows columns s (all_lines columns s)) (flushed columns s) (live_refused s.failure _ E.TooNarrow live e)

  pub text_narrow : (cs : List ℕ) (a b : A) (mode : WhiteSpace) →
      after_text columns cs a b mode s ≡ refused E.TooNarrow →
      (let g = grown s (text_events cs a b mode) in allows columns g (lines columns g) ≡ false)
  text_narrow cs a b mode e = grind (arith, refused_if_not, live_refused)

-- what a block promises of the end of its run
module _ {D A T : Type 0} (columns : ℕ → Option ℕ) (one : columns 32 ≡ Some 1) (r : Renderer D A T) (b : Open T) (wide : 0 < block_width r) where
  abbrev s : Block T
  s = block_in r b

  pub end_promised : fits_at_end columns r b ≡ true → EndsRun columns (block_width r) (may_overflow r) (run_of b.events) (lines_at_end columns r b) (names_at_end columns r b)
  end_promised fits = flush_ends columns one s wide (flushed columns s) (if_allowed columns (fits_at_end columns r b) (flushed columns s) fits)

  pub end_wide : fits_at_end columns r b ≡ false → ¬ (CharactersFit columns (block_width r) (run_of b.events))
  end_wide narrow = flush_wide columns one s wide refl (if_not_allowed columns (fits_at_end columns r b) (flushed columns s) narrow)

  pub join_wide : (cs : List ℕ) (v w : T) (mode : WhiteSpace) →
      fits_grown columns r b (text_events cs v w mode) ≡ false →
      ¬ (CharactersFit columns (block_width r) (run_of b.events ++ text_entries cs v w mode))
  join_wide cs v w mode narrow = text_wide columns s cs v w mode one wide refl (if_not_allowed columns (fits_grown columns r b (text_events cs v w mode)) (grown s (text_events cs v w mode)) narrow)

-- ---- the open block of a renderer

module _ {D A T : Type 0} (columns : ℕ → Option ℕ) (r : Renderer D A T) (b : Block T) (fresh : IsFresh columns (block_width r) (may_overflow r) b) where
  pub lines_seen : lines_at_end columns r (open_seen b) ≡ all_lines columns b
  lines_seen = ap (all_lines columns) (sym fresh.is)

  pub names_seen : names_at_end columns r (open_seen b) ≡ waiting_names columns b
  names_seen = ap (waiting_names columns) (sym fresh.is)

  pub fits_seen : fits_at_end columns r (open_seen b) ≡ allows columns b (all_lines columns b)
  fits_seen = ap (λ (s : Block T). allows columns s (all_lines columns s)) (sym fresh.is)

  pub line_start_seen : takes_no_columns columns (block_in r (open_seen b)) ≡ takes_no_columns columns b
  line_start_seen = ap (takes_no_columns columns) (sym fresh.is)

  pub any_line_seen : any_line columns (block_in r (open_seen b)) ≡ any_line columns b
  any_line_seen = ap (any_line columns) (sym fresh.is)

  -- and so it is of a block that has grown
  pub fits_grown_seen : (es : List (Event T)) → fits_grown columns r (open_seen b) es ≡ allows columns (grown b es) (lines columns (grown b es))
  fits_grown_seen es = ap (λ (s : Block T). allows columns (grown s es) (lines columns (grown s es))) (sym fresh.is)
