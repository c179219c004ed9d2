-- A call changes no settings but its own.
use Rattle.tbr_renderer.proofs.Common.{◌≡◌, ℕ, suc, ◌-◌, Option, Some, None, List, [], ◌∷◌, map, fold, refl, ap, ◌∙◌, arith, cond_both, Decoration, shown_title, annotated, after_titled}
use Rattle.tbr_renderer.proofs.Common.{Line, Renderer, settings_of, without_annotation, done, changed, after_text, with_border, with_divider, with_cell, with_cell_below, slash, live_done}
use Rattle.tbr_renderer.specs.Decorated.{struck_from, struck_until, after_start}
use Rattle.tbr_renderer.specs.Calls.{Call, add_empty_line, new_line, new_line_hard, start_block, start_table, add_inline_text, push_preformat, pop_preformat, begin, finish, start_strikeout}
use Rattle.tbr_renderer.specs.Calls.{end_strikeout, add_image, add_border, append_subrender, append_vert_row, Does}
use Rattle.tbr_renderer.specs.Appended.{border_of_cells, as_text, with_cells}
use Rattle.tbr_decor.specs.Start as start
use Rattle.tbr_decor.specs.End as end
use Rattle.tbr_renderer.proofs.OutcomeParts.{one_done, done_before}
use Rattle.tbr_renderer.specs.Calls.{made}
use Rattle.tbr_border.specs.Cell.{Cell}
use Rattle.tbr_renderer.specs.Settings.{settled, settled_by_image}
use Rattle.tbr_renderer.proofs.SettingsStay.{Steady, steady, lines_added, flushed_alike, empty_added, started_alike, text_added, taken, closed_alike}

module _ {D A : Type 0} (columns : ℕ → Option ℕ) where
  divided : (cell : Cell) (r : Renderer D A (List A)) → steady (with_divider columns cell r) ≡ steady r
  divided cell r = cond_both r.options.draw_borders (with_border columns r (border_of_cells cell r.width r)) r (λ (q : Renderer D A (List A)). steady q ≡ steady r) (λ e. refl) (λ e. refl)

  cells_below : (cells : List (List (Line (List A)))) (r : Renderer D A (List A)) → steady (fold (with_cell_below columns) r cells) ≡ steady r
  cells_below [] r = refl
  cells_below (lines ∷ cells) r =
      let q = with_divider columns slash r in cells_below cells (with_cell columns q lines) ∙ lines_added columns (map (as_text q.annotations) lines) q ∙ divided slash r

  cells_added : (cells : List (List (Line (List A)))) (r : Renderer D A (List A)) → steady (with_cells columns r cells) ≡ steady r
  cells_added cells r = grind (arith, cells_below, lines_added)

  module _ (decoration : Decoration D A) where
    -- what is opened, and then what is made of the settings that it leaves
    opened_alike : (opened : start.Start) (change : Renderer D A (List A) → Renderer D A (List A)) → ((m r : Renderer D A (List A)) → steady m ≡ steady r → steady (change m) ≡ steady (change r)) →
        (r s : Renderer D A (List A)) → changed change (after_start columns decoration opened r) ≡ done s → steady s ≡ steady (change (annotated decoration opened r))
    opened_alike opened change same r s h =
        let q = annotated decoration opened r in
        let cs = decoration.start_text r.decorator opened in
        let (m, adds, is) = done_before change (after_text columns decoration.preformatted cs q) s h in
        ap (λ (p : Renderer D A (List A)). steady p) is ∙ same m q (text_added columns decoration.preformatted cs q m adds)

    image_alike : (source : List ℕ) (title : Option (List ℕ)) (r s : Renderer D A (List A)) →
        after_titled columns decoration source title r ≡ done s → steady s ≡ steady (settled_by_image decoration source title r)
    image_alike source None r s h = ap (λ (p : Renderer D A (List A)). steady p) (one_done r s h)
    image_alike source (Some title) r s h = opened_alike (start.image source title) (λ (q : Renderer D A (List A)). without_annotation q) (taken columns decoration) r s h

    -- strokes, by the settings alone
    struck_alike : (m r : Renderer D A (List A)) → steady m ≡ steady r → steady (struck_from m) ≡ steady (struck_from r)
    struck_alike m r e = grind (arith, steady)

    made_settings : (call : Call (List A)) (r s : Renderer D A (List A)) → made columns decoration call r ≡ done s → steady s ≡ steady (settled decoration call r)
    made_settings add_empty_line r s h = empty_added columns r s h
    made_settings new_line r s h = flushed_alike columns r s h
    made_settings new_line_hard r s h = grind (arith, steady, empty_added, flushed_alike)
    made_settings start_block r s h = started_alike columns r s h
    made_settings start_table r s h = started_alike columns r s h
    made_settings (add_inline_text cs) r s h = text_added columns decoration.preformatted cs r s h
    made_settings (begin opened) r s h = text_added columns decoration.preformatted (decoration.start_text r.decorator opened) (annotated decoration opened r) s h
    made_settings (finish closed) r s h = closed_alike columns decoration closed r s h
    made_settings start_strikeout r s h = opened_alike start.strikeout (λ (q : Renderer D A (List A)). struck_from q) struck_alike r s h
    made_settings end_strikeout r s h = closed_alike columns decoration end.strikeout (struck_until r) s h
    made_settings (add_image source title) r s h = image_alike source (shown_title r.options.img_mode source title) r s h
    made_settings (add_border width) r s h = grind (arith, done_before, steady, flushed_alike)
    made_settings (append_subrender prefixes lines) r s h = grind (arith, done_before, steady, flushed_alike, lines_added)
    made_settings (append_vert_row cells) r s h = grind (arith, done_before, steady, flushed_alike, divided, cells_added)
    made_settings call r s h = ap (λ (q : Renderer D A (List A)). steady q) (one_done _ s h)

    call_settings : (call : Call (List A)) (r s : Renderer D A (List A)) → Does columns decoration call r s → steady s ≡ steady (settled decoration call r)
    call_settings call r s h = made_settings call r s (live_done r.failure (made columns decoration call r) s h).1

    pub call_changes : (call : Call (List A)) (r s : Renderer D A (List A)) → Does columns decoration call r s → settings_of s ≡ settings_of (settled decoration call r)
    call_changes call r s h = ap (λ (x : Steady D A). x.settings) (call_settings call r s h)

    -- ---- the kept refusal, and the preformatted stretches that are open

    abbrev pub preformats_after : Call (List A) → ℕ → ℕ
    preformats_after push_preformat n = suc n
    preformats_after pop_preformat n = n - 1
    preformats_after other n = n

    -- neither is changed
    abbrev Beside : Renderer D A (List A) → Renderer D A (List A) → Type 0
    Beside r s = (s.failure ≡ r.failure) × (s.preformatted ≡ r.preformatted)

    settled_beside : (call : Call (List A)) (r : Renderer D A (List A)) → (let s = settled decoration call r in (s.failure ≡ r.failure) × (s.preformatted ≡ preformats_after call r.preformatted))
    settled_beside call r = grind arith

    pub call_beside : (call : Call (List A)) (r s : Renderer D A (List A)) → Does columns decoration call r s → (s.failure ≡ r.failure) × (s.preformatted ≡ preformats_after call r.preformatted)
    call_beside call r s h = grind (arith, call_settings call r s h, settled_beside call r)
