-- The lines of laid texts, and the visible characters there.
use Rattle.text_block_renderer.proofs.Common.{◌≡◌, ◌≤◌, ℕ, Option, List, [], ◌∷◌, ◌++◌, map, flat_map, fold, length, refl, ap, arith, ◌∙◌, rules, Each, zip, IsSpaces, visible_glyphs, text_items}
use Rattle.text_block_renderer.proofs.Common.{Decoration, Line, Renderer, with_line, done, changed, after_flush, as_text, prefixed, append_subrender, Does, text_of_lines, lines_laid, visible_after}
use Rattle.tbr_model.specs.Layout.{joined}
use Rattle.tbr_tagged.proofs.Outcomes.{live_done}
use Rattle.tbr_renderer.proofs.OutcomeParts.{done_before}
use Rattle.text_block_renderer.proofs.AddedLines.{laid_lines}
use Rattle.text_block_renderer.proofs.VisibleCharacters.{space_unseen, glyphs-append, shown_texts}

-- ---- after prefixes

module _ {T : Type 0} (columns : ℕ → Option ℕ) where
  shown_after : (tag : T) (prefixes : List (List ℕ)) (lines : List (Line T)) → visible_glyphs columns (joined (prefixed tag prefixes lines)) ≡ flat_map (visible_after columns tag) (zip prefixes lines)
  shown_after tag [] lines = refl
  shown_after tag (p ∷ ps) [] = refl
  shown_after tag (p ∷ ps) (l ∷ ls) = grind (arith, glyphs-append, shown_after tag ps ls)

  unseen_spaces : (tag : T) (cs : List ℕ) → IsSpaces cs → visible_glyphs columns (text_items cs tag) ≡ []
  unseen_spaces tag [] h = refl
  unseen_spaces tag (c ∷ cs) h = grind (arith, space_unseen, unseen_spaces tag cs h.1)

  -- spaces in front are not seen
  shown_indented : (tag : T) (prefixes : List (List ℕ)) (lines : List (Line T)) → length lines ≤ length prefixes → Each IsSpaces prefixes →
      flat_map (visible_after columns tag) (zip prefixes lines) ≡ visible_glyphs columns (joined (map (as_text tag) lines))
  shown_indented tag [] [] fewer h = refl
  shown_indented tag [] (l ∷ ls) fewer h = absurd (omega (arith, fewer))
  shown_indented tag (p ∷ ps) [] fewer h = refl
  shown_indented tag (p ∷ ps) (l ∷ ls) fewer h = search (rules, unseen_spaces, glyphs-append, shown_indented tag ps ls (let e : length ls ≤ length ps = omega (arith, fewer) in e) h.1)

-- ---- lines

module _ {D A : Type 0} (columns : ℕ → Option ℕ) where
  -- where they come after a flush
  pub lines_after : (decoration : Decoration D A) (prefixes : List (List ℕ)) (lines : List (Line (List A)))
      (r s : Renderer D A (List A)) → Does columns decoration (append_subrender prefixes lines) r s →
      (m : Renderer D A (List A)) × (after_flush columns r ≡ done m) × (s ≡ fold (with_line columns) m (prefixed r.annotations prefixes lines))
  lines_after decoration prefixes lines r s h =
      let change : Renderer D A (List A) → Renderer D A (List A) = λ m. fold (with_line columns) m (prefixed r.annotations prefixes lines) in
      done_before change (after_flush columns r) s (live_done r.failure (changed change (after_flush columns r)) s h).1

  pub appended_after : (decoration : Decoration D A) (prefixes : List (List ℕ)) (lines : List (Line (List A)))
      (r s : Renderer D A (List A)) → Does columns decoration (append_subrender prefixes lines) r s →
      (m : Renderer D A (List A)) × (after_flush columns r ≡ done m) × (s.lines ≡ m.lines ++ lines_laid columns m (prefixed r.annotations prefixes lines))
  appended_after decoration prefixes lines r s h =
      let (m, flushed, is) = lines_after decoration prefixes lines r s h in
      (m, flushed, ap (λ (q : Renderer D A (List A)). q.lines) is ∙ laid_lines columns (prefixed r.annotations prefixes lines) m)

  -- ---- visible characters

  pub characters_after : (decoration : Decoration D A) (prefixes : List (List ℕ)) (lines : List (Line (List A)))
      (r s : Renderer D A (List A)) → Does columns decoration (append_subrender prefixes lines) r s →
      (m : Renderer D A (List A)) × (after_flush columns r ≡ done m) ×
      (visible_glyphs columns (text_of_lines s.lines) ≡ visible_glyphs columns (text_of_lines m.lines) ++ flat_map
      (visible_after columns r.annotations) (zip prefixes lines))
  characters_after decoration prefixes lines r s h =
      let (m, flushed, is) = lines_after decoration prefixes lines r s h in
      let shown = ap (λ (q : Renderer D A (List A)). visible_glyphs columns (text_of_lines q.lines)) is ∙ shown_texts columns (prefixed r.annotations prefixes lines) m in
      (m, flushed, shown ∙ ap (λ gs. visible_glyphs columns (text_of_lines m.lines) ++ gs) (shown_after columns r.annotations prefixes lines))

  pub characters_indented : (decoration : Decoration D A) (prefixes : List (List ℕ)) (lines : List (Line (List A)))
      (r s : Renderer D A (List A)) → Does columns decoration (append_subrender prefixes lines) r s →
      length lines ≤ length prefixes → Each IsSpaces prefixes → (m : Renderer D A (List A)) × (after_flush columns r ≡ done m)
      × (visible_glyphs columns (text_of_lines s.lines) ≡ visible_glyphs columns (text_of_lines m.lines) ++ visible_glyphs columns (joined (map (as_text r.annotations) lines)))
  characters_indented decoration prefixes lines r s h fewer spaces =
      let (m, flushed, shown) = characters_after decoration prefixes lines r s h in
      (m, flushed, shown ∙ ap (λ gs. visible_glyphs columns (text_of_lines m.lines) ++ gs) (shown_indented columns r.annotations prefixes lines fewer spaces))
