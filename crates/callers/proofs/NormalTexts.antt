-- Runs of texts in `Normal`, for callers.
use Rattle.callers.proofs.Common.{◌≡◌, ℕ, ◌<◌, Bool, false, Option, Some, List, [], ◌∷◌, refl, sym, subst, AllZip, Item, Normal, Element, done, HasBestLines, ShowsText, text_entries, Block, new_block}
use Rattle.callers.proofs.Common.{all_lines, grown, after_text, after_flush, text_leaves, flush_leaves}
use Rattle.tbr_model.specs.Run.{Entry}
use Rattle.tbr_wrap.specs.Runs.{IsNormal}
use Rattle.tbr_wrap.specs.Block.{text_events}
use Rattle.tbr_wrap.proofs.runs.BlockLaws.{flush_best, entries_run}

-- a text in `Normal` makes a `Normal` run
pub text_normal : {A : Type 0} (cs : List ℕ) (a b : A) → IsNormal (text_entries cs a b Normal)
text_normal [] a b = tt
text_normal (c ∷ cs) a b = (refl, text_normal cs a b)

-- what a new block hands out whose only run is `Normal`
pub best_lines : {A : Type 0} (columns : ℕ → Option ℕ) (one : columns 32 ≡ Some 1) (eq : A → A → Bool) (width : ℕ)
    (wide : 0 < width) (padding : Option A) (cs : List ℕ) (a b : A) (s : Block A) (lines : List (List (Element A)))
    →
    after_text columns cs a b Normal (new_block width false padding) ≡ done s → ((t : Block A) × (after_flush columns s ≡ done t) × AllZip (ShowsText columns eq s.padding s.width) lines t.ended) →
    (texts : List (List (Item A))) × HasBestLines columns width (text_entries cs a b Normal) texts × AllZip (ShowsText columns eq padding width) lines texts
best_lines {A} columns one eq width wide padding cs a b s lines joins given =
    let first : Block A = new_block width false padding in
    let q : Block A = grown first (text_events cs a b Normal) in
    let is : s ≡ q = text_leaves columns first s cs a b Normal joins in
    let (t, ends, shown) = subst (λ (r : Block A). (t : Block A) × (after_flush columns r ≡ done t) × AllZip (ShowsText columns eq r.padding r.width) lines t.ended) is given in
    let run = entries_run (text_entries cs a b Normal) in
    let best = flush_best columns one q wide t ends refl (subst (λ (es : List (Entry A)). IsNormal es) (sym run) (text_normal cs a b)) in (
      all_lines columns q,
      subst (λ (es : List (Entry A)). HasBestLines columns width es (all_lines columns q)) run best,
      subst (λ (r : Block A). AllZip (ShowsText columns eq padding width) lines r.ended) (flush_leaves columns q t ends) shown,
    )
