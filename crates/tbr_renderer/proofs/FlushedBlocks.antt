-- What a flush leaves.
use Rattle.tbr_renderer.proofs.Common.{◌≡◌, ℕ, true, Option, None, Some, List, [], ◌∷◌, fold, refl, ap, ◌∙◌, arith, run_of, Item, EndsRun, done, Open, Renderer, block_width, may_overflow}
use Rattle.tbr_renderer.proofs.Common.{with_line, block_lines, lines_at_end, names_at_end, fits_at_end, after_block, after_flush}
use Rattle.tbr_renderer.specs.Renderer.{IsSound}
use Rattle.tbr_renderer.specs.Flush.{flushed}
use Rattle.tbr_renderer.proofs.OutcomeParts.{one_done, if_fits}
use Rattle.tbr_renderer.proofs.OpenBlocks.{end_promised}

-- The end of a block: its lines fit, are what a block promises of its run's, and join the others.
pub record EndsBlock {D A : Type 0} (columns : ℕ → Option ℕ) (r : Renderer D A (List A)) (b : Open (List A)) (s : Renderer D A (List A)) : Type 0 where
  pub fits : fits_at_end columns r b ≡ true
  pub ends : IsSound columns r → EndsRun columns (block_width r) (may_overflow r) (run_of b.events) (lines_at_end columns r b) (names_at_end columns r b)
  pub is : s ≡ flushed columns r (block_lines columns r b (lines_at_end columns r b)) (names_at_end columns r b)

-- What a flush leaves: where no block is open, what there was.
abbrev pub FlushesBlock : {D A : Type 0} → (ℕ → Option ℕ) → Renderer D A (List A) → Option (Open (List A)) → Renderer D A (List A) → Type 0
FlushesBlock columns r None s = s ≡ r
FlushesBlock columns r (Some b) s = EndsBlock columns r b s

abbrev pub Flushes : {D A : Type 0} → (ℕ → Option ℕ) → Renderer D A (List A) → Renderer D A (List A) → Type 0
Flushes columns r s = FlushesBlock columns r r.block s

module _ {D A : Type 0} (columns : ℕ → Option ℕ) (r s : Renderer D A (List A)) where
  pub block_ended : (b : Open (List A)) → after_block columns r (Some b) ≡ done s →
      (fits_at_end columns r b ≡ true) × (s ≡ flushed columns r (block_lines columns r b (lines_at_end columns r b)) (names_at_end columns r b))
  block_ended b e = if_fits (fits_at_end columns r b) (flushed columns r (block_lines columns r b (lines_at_end columns r b)) (names_at_end columns r b)) s e

  block_flushed : (o : Option (Open (List A))) → after_block columns r o ≡ done s → FlushesBlock columns r o s
  block_flushed None e = one_done r s e
  block_flushed (Some b) e =
      let (fits, is) = block_ended b e in
      record { fits = fits; ends = λ sound. end_promised columns sound.space r b sound.wide fits; is = is }

  pub flushes : after_flush columns r ≡ done s → Flushes columns r s
  flushes e = block_flushed r.block e

  -- What neither the lines nor the open block tell stays.
  pub flush_keeps : {X : Type 0} (look : Renderer D A (List A) → X) →
      ((texts : List (List (Item (List A)))) (names : List (List ℕ)) → look (flushed columns r texts names) ≡ look r)
      → after_flush columns r ≡ done s → look s ≡ look r
  flush_keeps {X} look same e = go r.block e
    where
      go : (o : Option (Open (List A))) → after_block columns r o ≡ done s → look s ≡ look r
      go None h = ap look (one_done r s h)
      go (Some b) h = ap look (block_ended b h).1 ∙ same (block_lines columns r b (lines_at_end columns r b)) (names_at_end columns r b)

-- ---- what else stays

-- a renderer but for its lines and the markers that wait
abbrev pub beside : {D A : Type 0} → Renderer D A (List A) → Renderer D A (List A)
beside r = record r { lines = []; waiting = [] }

module _ {D A : Type 0} (columns : ℕ → Option ℕ) where
  pub lines_beside : (ts : List (List (Item (List A)))) (q : Renderer D A (List A)) → beside (fold (with_line columns) q ts) ≡ beside q
  lines_beside [] q = refl
  lines_beside (t ∷ ts) q = lines_beside ts (with_line columns q t)

  pub flush_beside : (r s : Renderer D A (List A)) (o : Option (Open (List A))) → o ≡ r.block → FlushesBlock columns r o s → beside s ≡ record (beside r) { block = None }
  flush_beside r s o e h = grind (arith, lines_beside)

  pub flushed_none : (r s : Renderer D A (List A)) → Flushes columns r s → s.block ≡ None
  flushed_none r s h = ap (λ (q : Renderer D A (List A)). q.block) (flush_beside r s r.block refl h)
