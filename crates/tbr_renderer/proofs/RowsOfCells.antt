-- Rows of cells side by side.
use Rattle.tbr_renderer.proofs.Common.{◌≡◌, ℕ, ◌+◌, Bool, Option, Some, None, List, [], ◌∷◌, ◌++◌, refl, ap, ◌∙◌, arith, option_map, Each, SeenRow, Renderer, settings_of, before_border}
use Rattle.tbr_renderer.proofs.Common.{GivenCell, with_row, cells_from, done, if_live, after_flush, row_put, row_made, placed, live_done, live_goes}
use Rattle.tbr_rows.specs.declared.LineSet.{LineSet as Overhanging}
use Rattle.tbr_rows.specs.Cells.{with_hanging}
use Rattle.tbr_renderer.specs.Rows.{border_lines, cell_from, own_cells, row_seated, after_row}
use Rattle.tbr_renderer.proofs.FlushedBlocks.{beside, lines_beside, flush_beside}
use Rattle.tbr_renderer.proofs.OutcomeParts.{one_done, done_first}
use Rattle.tbr_renderer.proofs.FlushedBlocks.{Flushes, flushes}

-- ---- the flush before a row

-- a row of some kind comes after a flush
abbrev pub LaysRow : {D A : Type 0} → (ℕ → Option ℕ) → Renderer D A (List A) → Renderer D A (List A) → Type 0
LaysRow {D} {A} columns r s = (m : Renderer D A (List A)) × (if_live r.failure (after_flush columns r) ≡ done m) × (row : SeenRow (List A)) × (s ≡ with_row columns m row)

-- the row of a renderer after a flush, and its cells in their places
pub row_parts : {D A : Type 0} (same : List A → List A → Bool) (columns : ℕ → Option ℕ) (collapses : Bool) (cells : List (GivenCell (List A))) (r s : Renderer D A (List A)) →
    after_row same columns collapses cells r ≡ done s →
    (m : Renderer D A (List A)) × (if_live r.failure (after_flush columns r) ≡ done m) × (seated : List (Overhanging (List A)))
    × (with_hanging 0 m.hanging (own_cells same columns cells m) ≡ Some seated) × (s ≡ with_row columns m (row_seated same columns collapses m seated))
row_parts {D} {A} same columns collapses cells r s is =
    let (live, made) = live_done r.failure (row_made same columns collapses cells r) s is in
    let (m, flushed, put) = done_first (after_flush columns r) (λ q. placed (row_put same columns collapses cells q)) s made in
    let (seated, are, row) = go m (with_hanging 0 m.hanging (own_cells same columns cells m)) put in
    (m, live_goes r.failure (after_flush columns r) live ∙ flushed, seated, are, row)
  where
    go : (m : Renderer D A (List A)) (o : Option (List (Overhanging (List A)))) → placed (option_map (with_row columns m) (option_map (row_seated same columns collapses m) o)) ≡ done s →
        (seated : List (Overhanging (List A))) × (o ≡ Some seated) × (s ≡ with_row columns m (row_seated same columns collapses m seated))
    go m None put = absurd (let no : ⊥ = cc in no)
    go m (Some seated) put = (seated, refl, one_done (with_row columns m (row_seated same columns collapses m seated)) s put)

pub row_laid : {D A : Type 0} (same : List A → List A → Bool) (columns : ℕ → Option ℕ) (collapses : Bool)
    (cells : List (GivenCell (List A))) (r s : Renderer D A (List A)) → after_row same columns collapses cells r ≡ done s → LaysRow columns r s
row_laid same columns collapses cells r s is =
    let (m, flushed, seated, are, row) = row_parts same columns collapses cells r s is in (m, flushed, row_seated same columns collapses m seated, row)

-- what holds of each of them holds of the cells that come
pub each_own : {A : Type 0} (same : A → A → Bool) (columns : ℕ → Option ℕ) (a : A) (P : GivenCell A → Type 0) (Q : Overhanging A → Type 0) →
    ((given : GivenCell A) (at : ℕ) → P given → Q (cell_from same columns a at given)) → (at : ℕ) (cells : List (GivenCell A)) → Each P cells → Each Q (cells_from same columns a at cells)
each_own same columns a P Q one at [] h = tt
each_own same columns a P Q one at (given ∷ more) h = (one given at h.0, each_own same columns a P Q one (at + given.width + 1) more h.1)

pub row_flushes : {D A : Type 0} (columns : ℕ → Option ℕ) (r m : Renderer D A (List A)) → if_live r.failure (after_flush columns r) ≡ done m → Flushes columns r m
row_flushes columns r m h = flushes columns r m (live_done r.failure (after_flush columns r) m h).1

-- a renderer with the border above a row in the place of its last line, if that is one
abbrev pub under_row : {D A : Type 0} → Renderer D A (List A) → SeenRow (List A) → Renderer D A (List A)
under_row r row = record r { lines = before_border r.lines ++ border_lines row.above; hanging = row.overhang }

module _ {D A : Type 0} (columns : ℕ → Option ℕ) where
  pub row_beside : (r : Renderer D A (List A)) (row : SeenRow (List A)) → beside (with_row columns r row) ≡ record (beside r) { hanging = row.overhang }
  row_beside r row = grind (arith, lines_beside)

  -- Only lines, the open block, waiting markers and overhanging cells aren't as they were.
  laid_beside : (r s : Renderer D A (List A)) → LaysRow columns r s → (cells : List (Overhanging (List A))) × (beside s ≡ record (beside r) { block = None; hanging = cells })
  laid_beside r s (m, flushed, row, is) = (
    row.overhang,
    ap (λ (q : Renderer D A (List A)). beside q) is ∙ row_beside m row
        ∙ ap (λ (q : Renderer D A (List A)). record q { hanging = row.overhang })
        (flush_beside columns r m r.block refl (row_flushes columns r m flushed)),
  )

  pub settings_stay : (r s : Renderer D A (List A)) → LaysRow columns r s → settings_of s ≡ settings_of r
  settings_stay r s h = ap (λ (q : Renderer D A (List A)). settings_of q) (laid_beside r s h).1

  pub failure_stays : (r s : Renderer D A (List A)) → LaysRow columns r s → s.failure ≡ r.failure
  failure_stays r s h = ap (λ (q : Renderer D A (List A)). q.failure) (laid_beside r s h).1

  pub row_closed : (r s : Renderer D A (List A)) → LaysRow columns r s → s.block ≡ None
  row_closed r s h = ap (λ (q : Renderer D A (List A)). q.block) (laid_beside r s h).1
