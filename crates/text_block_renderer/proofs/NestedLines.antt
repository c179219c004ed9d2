-- Lines after the prefixes of blocks inside blocks.
use Rattle.text_block_renderer.proofs.Common.{◌≡◌, ℕ, zero, suc, ◌+◌, Option, Some, None, List, [], ◌∷◌, ◌++◌, map, length, refl, ap, sym, ◌∙◌, subst, arith, slice_get, zip, length-append, length-map}
use Rattle.text_block_renderer.proofs.Common.{Item, text_items, Decoration, Line, Open, Renderer, as_text, prefixed, padded_line, lines_laid, nested, Level, markers_before, BecomesLine, lines_left}
use Rattle.text_block_renderer.proofs.Common.{HandsOn, HandOn}
use Rattle.std.proofs.lemmas.Option.{slice_get-map}
use Rattle.std.proofs.lemmas.Slice.Zip.{length-zip}
use Rattle.tbr_renderer.proofs.OutcomeParts.{one_done}
use Rattle.tbr_renderer.proofs.FlushedBlocks.{FlushesBlock, flushes}
use Rattle.tbr_renderer.proofs.CallParts.{handed_then}
use Rattle.tbr_renderer.proofs.FlushedBlocks.{lines_beside, flush_beside, flushed_none}
use Rattle.text_block_renderer.proofs.AddedLines.{laid_lines}
use Rattle.text_block_renderer.proofs.LaidTexts.{lines_after}

behind : {X : Type 0} (xs ys : List X) (i : ℕ) → slice_get (xs ++ ys) (length xs + i) ≡ slice_get ys i
behind [] ys i = let none : 0 + i ≡ i = omega arith in ap (slice_get ys) none
behind (x ∷ xs) ys i =
    let next : length (x ∷ xs) + i ≡ suc (length xs + i) = omega arith in
    ap (slice_get (x ∷ xs ++ ys)) next ∙ behind xs ys i

module _ {T : Type 0} where
  prefixed_get : (tag : T) (prefixes : List (List ℕ)) (lines : List (Line T)) (i : ℕ) (prefix : List ℕ) (line : Line T) → slice_get prefixes i ≡ Some prefix → slice_get lines i ≡ Some line →
      slice_get (prefixed tag prefixes lines) i ≡ Some (text_items prefix tag ++ as_text tag line)
  prefixed_get tag (p ∷ ps) (l ∷ ls) zero prefix line h k = grind arith
  prefixed_get tag (p ∷ ps) (l ∷ ls) (suc i) prefix line h k = prefixed_get tag ps ls i prefix line h k
  prefixed_get tag prefixes lines i prefix line h k = cc

  prefixed_zip : (tag : T) (prefixes : List (List ℕ)) (lines : List (Line T)) → prefixed tag prefixes lines ≡ map (λ (p : List ℕ × Line T). text_items p.0 tag ++ as_text tag p.1) (zip prefixes lines)
  prefixed_zip tag [] lines = refl
  prefixed_zip tag (p ∷ ps) [] = refl
  prefixed_zip tag (p ∷ ps) (l ∷ ls) = ap (λ ts. (text_items p tag ++ as_text tag l) ∷ ts) (prefixed_zip tag ps ls)

module _ {D A : Type 0} (columns : ℕ → Option ℕ) where
  laid_get : (ts : List (List (Item (List A)))) (r : Renderer D A (List A)) (i : ℕ) (t : List (Item (List A))) →
      slice_get ts i ≡ Some t →
      slice_get (lines_laid columns r ts) i ≡ Some (padded_line columns r (markers_before columns r i ++ t))
  laid_get [] r i t h = cc
  laid_get (u ∷ ts) r zero t h = grind arith
  laid_get (u ∷ ts) r (suc i) t h = grind (arith, slice_get-map)

  pub nested_line : (levels : List (Level D A)) (lines : List (Line (List A))) (i j : ℕ) (line last : Line (List A)) →
      slice_get lines i ≡ Some line → BecomesLine columns levels i line j last →
      slice_get (nested columns levels lines) j ≡ Some last
  nested_line [] lines i j line last h (place, is) = ap (slice_get lines) place ∙ h ∙ ap Some (sym is)
  nested_line (level ∷ levels) lines i j line last h (k, inside, prefix, becomes, there, place, is) =
      let r = level.taker in
      let texts = prefixed r.annotations level.prefixes (nested columns levels lines) in
      let text = text_items prefix r.annotations ++ as_text r.annotations inside in
      let got = prefixed_get r.annotations level.prefixes (nested columns levels lines) k prefix inside there (nested_line levels lines i k line inside h becomes) in
      ap (slice_get (r.lines ++ lines_laid columns r texts)) place ∙ behind r.lines (lines_laid columns r texts) k ∙ laid_get texts r k text got ∙ ap Some (sym is)

  laid_count : (ts : List (List (Item (List A)))) (r : Renderer D A (List A)) → length (lines_laid columns r ts) ≡ length ts
  laid_count [] r = refl
  laid_count (t ∷ ts) r = grind (arith, length-map)

  pub nested_count : (levels : List (Level D A)) (lines : List (Line (List A))) → length (nested columns levels lines) ≡ lines_left levels (length lines)
  nested_count [] lines = refl
  nested_count (level ∷ levels) lines = grind (arith, length-append, laid_count, length-map, prefixed_zip, length-zip, nested_count levels lines)

  module _ (decoration : Decoration D A) where
    handed_on : (level : Level D A) (inside lines : List (Line (List A))) → HandsOn columns decoration level inside lines → lines ≡ nested columns (level ∷ []) inside
    handed_on level inside lines h =
        let (m, flushed, is) = lines_after columns decoration level.prefixes inside h.first h.last h.takes in
        let texts = prefixed h.first.annotations level.prefixes inside in
        let flush = flushes columns h.first m flushed in
        let closed : h.last.block ≡ None =
        ap (λ (q : Renderer D A (List A)). q.block) is
        ∙ ap (λ (q : Renderer D A (List A)). q.block) (lines_beside columns texts m)
        ∙ flushed_none columns h.first m flush in
        let (q, ends, out) = handed_then columns h.last lines h.gives in
        let still : q ≡ h.last = subst (λ (o : Option (Open (List A))). FlushesBlock columns h.last o q) closed ends in
        let tags = sym (ap (λ (p : Renderer D A (List A)). p.annotations) (flush_beside columns h.first m h.first.block refl flush)) in
        out ∙ ap (λ (p : Renderer D A (List A)). p.lines) (still ∙ is) ∙ laid_lines columns texts m ∙ ap (λ a. m.lines ++ lines_laid columns m (prefixed a level.prefixes inside)) tags
        ∙ ap (λ (p : Renderer D A (List A)). p.lines ++ lines_laid columns p (prefixed p.annotations level.prefixes inside)) (one_done level.taker m (sym h.flushes ∙ flushed))

    pub hand_on : (levels : List (Level D A)) (inside lines : List (Line (List A))) → HandOn columns decoration levels inside lines → lines ≡ nested columns levels inside
    hand_on [] inside lines h = h
    hand_on (level ∷ levels) inside lines (between, others, here) = handed_on level between lines here ∙ ap (nested columns (level ∷ [])) (hand_on levels inside between others)
