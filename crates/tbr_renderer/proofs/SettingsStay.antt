-- What text and the end of a block leave of the settings and of the kept refusal.
use Rattle.tbr_renderer.proofs.Common.{◌≡◌, ℕ, Bool, true, false, if◌then◌else◌, Option, None, List, [], ◌∷◌, fold, refl, ap, ◌∙◌, arith, cond_both, Item, End, Decoration, Error, done}
use Rattle.tbr_renderer.proofs.Common.{asked_to_close, after_end, Renderer, Settings, settings_of, has_content, with_line, without_annotation, ignores, after_flush, after_empty_line}
use Rattle.tbr_renderer.proofs.Common.{block_started, after_block_start, after_joining, after_first_text, after_text}
use Rattle.tbr_kept_lines.specs.LastBorder.{without_last}
use Rattle.tbr_renderer.proofs.OutcomeParts.{one_done, done_first, done_before, if_fits}
use Rattle.tbr_renderer.proofs.FlushedBlocks.{flush_keeps}

-- the settings, and the kept refusal
pub record Steady (D A : Type 0) : Type 0 where
  pub settings : Settings D A
  pub failure : Option Error

abbrev pub steady : {D A : Type 0} → Renderer D A (List A) → Steady D A
steady r = record { settings = settings_of r; failure = r.failure }

module _ {D A : Type 0} (columns : ℕ → Option ℕ) where
  pub lines_added : (texts : List (List (Item (List A)))) (r : Renderer D A (List A)) → steady (fold (with_line columns) r texts) ≡ steady r
  lines_added [] r = refl
  lines_added (t ∷ ts) r = lines_added ts (with_line columns r t)

  pub flushed_alike : (r s : Renderer D A (List A)) → after_flush columns r ≡ done s → steady s ≡ steady r
  flushed_alike r s h = flush_keeps columns r s (λ (q : Renderer D A (List A)). steady q) (λ texts names. lines_added texts (record r { block = None })) h

  pub empty_added : (r s : Renderer D A (List A)) → after_empty_line columns r ≡ done s → steady s ≡ steady r
  empty_added r s h = grind (arith, done_before, flushed_alike)

  begun : (r : Renderer D A (List A)) → steady (block_started columns r) ≡ steady r
  begun r = cond_both (has_content r) _ _ (λ (q : Renderer D A (List A)). steady q ≡ steady r) (λ _. refl) (λ _. refl)

  pub started_alike : (r s : Renderer D A (List A)) → after_block_start columns r ≡ done s → steady s ≡ steady r
  started_alike r s h = grind (arith, done_before, begun, flushed_alike)

  module _ (preformatted : D → Bool → A) where
    joined : (cs : List ℕ) (r s : Renderer D A (List A)) → after_joining columns preformatted cs r ≡ done s → steady s ≡ steady r
    joined cs r s h = grind (arith, if_fits)

    pub text_added : (cs : List ℕ) (r s : Renderer D A (List A)) → after_text columns preformatted cs r ≡ done s → steady s ≡ steady r
    text_added cs r s h = go (ignores r cs) r.block_ended h
      where
        go : (ignored ended : Bool) → (if ignored then done r else if ended then after_first_text columns preformatted cs r else after_joining columns preformatted cs r) ≡ done s → steady s ≡ steady r
        go true ended e = ap (λ (q : Renderer D A (List A)). steady q) (one_done r s e)
        go false false e = joined cs r s e
        go false true e =
            let (m, starts, joins) = done_first (after_block_start columns r) (after_joining columns preformatted cs) s e in
            joined cs m s joins ∙ started_alike r m starts

  module _ (decoration : Decoration D A) where
    pub taken : (m r : Renderer D A (List A)) → steady m ≡ steady r → steady (without_annotation m) ≡ steady (without_annotation r)
    taken m r e = ap (λ (x : Steady D A). record x { settings = record x.settings { annotations = without_last x.settings.annotations } }) e

    pub closed_alike : (closed : End) (r s : Renderer D A (List A)) → after_end columns decoration closed r ≡ done s → steady s ≡ steady (without_annotation (asked_to_close decoration closed r))
    closed_alike closed r s h =
        let q = asked_to_close decoration closed r in
        let cs = decoration.end_text r.decorator closed in
        let (m, adds, is) = done_before (λ (p : Renderer D A (List A)). without_annotation p) (after_text columns decoration.preformatted cs q) s h in
        ap (λ (p : Renderer D A (List A)). steady p) is ∙ taken m q (text_added decoration.preformatted cs q m adds)
