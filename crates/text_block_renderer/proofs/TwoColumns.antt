-- Two columns are enough for characters that take two at most.
use Rattle.text_block_renderer.proofs.Common.{unwrap_or, IfSome, ◌≡◌, ℕ, ◌≤◌, inl, inr, Bool, true, false, Option, Some, None, List, [], ◌∷◌, fold, ap, sym, subst, arith, rules, cond_both, run_of}
use Rattle.text_block_renderer.proofs.Common.{Entry, character, marker_entry, CharactersFit, Decoration, shown_title, struck_from, struck_until, annotated, after_start, after_end, after_titled, Open}
use Rattle.text_block_renderer.proofs.Common.{Renderer, least, block_width, with_line, open_block, with_events, struck, text_annotations, last_mode, refused, horizontal, changed, block_lines}
use Rattle.text_block_renderer.proofs.Common.{lines_at_end, names_at_end, fits_at_end, fits_grown, flushed, after_block, after_flush, with_empty_line, block_started, after_block_start, text_brings}
use Rattle.text_block_renderer.proofs.Common.{after_joining, after_first_text, after_text, with_border, border_of_cells, prefixed, with_divider, with_cells, Call, add_empty_line, new_line}
use Rattle.text_block_renderer.proofs.Common.{new_line_hard, start_block, start_table, add_inline_text, begin, finish, start_strikeout, end_strikeout, add_image, add_border, append_subrender}
use Rattle.text_block_renderer.proofs.Common.{append_vert_row, Act, ActIsTooNarrow, TakeTwoAtMost}
use Rattle.tbr_decor.specs.Start as start
use Rattle.tbr_decor.specs.End as end
use Rattle.tbr_tagged.specs.declared.Error.TheVariants.{TooNarrow}
use Rattle.tbr_renderer.proofs.OutcomeParts.{refused_before, refused_first, refused_if_not}
use Rattle.tbr_renderer.proofs.OpenBlocks.{end_wide, join_wide}
use Rattle.tbr_renderer.specs.Acts.{call, row, fmt_links, finalise}
use Rattle.tbr_renderer.specs.Calls.{made}
use Rattle.tbr_renderer.proofs.SettingsStay.{Steady, started_alike}

narrow : (o : Option ℕ) (width : ℕ) → IfSome o (λ n. n ≤ 2) → 2 ≤ width → unwrap_or o 0 ≤ width
narrow o width two wide = grind arith

characters_fit : {T : Type 0} (columns : ℕ → Option ℕ) → TakeTwoAtMost columns → (width : ℕ) (es : List (Entry T)) → 2 ≤ width → CharactersFit columns width es
characters_fit columns two width [] wide = tt
characters_fit columns two width (character c a b mode ∷ es) wide = (narrow (columns c) width (two c) wide, characters_fit columns two width es wide)
characters_fit columns two width (marker_entry name ∷ es) wide = (tt, characters_fit columns two width es wide)

module _ {D A : Type 0} (columns : ℕ → Option ℕ) (one : columns 32 ≡ Some 1) (two : TakeTwoAtMost columns) where
  flush_fits : (r : Renderer D A (List A)) → 2 ≤ block_width r → after_flush columns r ≡ refused TooNarrow → ⊥
  flush_fits r wide h = go r.block h
    where
      go : (o : Option (Open (List A))) → after_block columns r o ≡ refused TooNarrow → ⊥
      go None e = cc
      go (Some b) e =
          end_wide columns one r b (omega (arith, wide))
          (refused_if_not (fits_at_end columns r b)
          (flushed columns r (block_lines columns r b (lines_at_end columns r b)) (names_at_end columns r b)) e)
          (characters_fit columns two (block_width r) (run_of b.events) wide)

  flushed_fits : {X : Type 0} (change : Renderer D A (List A) → X) (r : Renderer D A (List A)) → 2 ≤ block_width r → changed change (after_flush columns r) ≡ refused TooNarrow → ⊥
  flushed_fits change r wide h = flush_fits r wide (refused_before change (after_flush columns r) TooNarrow h)

  module _ (preformatted : D → Bool → A) where
    join_fits : (cs : List ℕ) (r : Renderer D A (List A)) → 2 ≤ block_width r → after_joining columns preformatted cs r ≡ refused TooNarrow → ⊥
    join_fits cs r wide h =
        let more = text_brings columns preformatted cs r in
        join_wide columns one r (open_block r) (omega (arith, wide)) (struck columns r.strikeouts cs) (text_annotations preformatted false r) (text_annotations preformatted true r) (last_mode r.modes)
        (refused_if_not (fits_grown columns r (open_block r) more) (with_events r more) h) (characters_fit columns two (block_width r) _ wide)

    first_fits : (cs : List ℕ) (r : Renderer D A (List A)) → 2 ≤ block_width r → after_first_text columns preformatted cs r ≡ refused TooNarrow → ⊥
    first_fits cs r wide h = elim (refused_first (after_block_start columns r) (after_joining columns preformatted cs) TooNarrow h) [
      | inl starts ↦ flushed_fits (block_started columns) r wide starts
      | inr joins ↦ (let same =
          ap (λ (x : Steady D A). least x.settings.kept.width x.settings.kept.options.wrap_width)
          (started_alike columns r joins.0 joins.1) in join_fits cs joins.0 (subst (λ n. 2 ≤ n) (sym same) wide) joins.2)
    ]

    text_fits : (cs : List ℕ) (r : Renderer D A (List A)) → 2 ≤ block_width r → after_text columns preformatted cs r ≡ refused TooNarrow → ⊥
    text_fits cs r wide h = grind (arith, first_fits, join_fits)

  module _ (decoration : Decoration D A) where
    start_fits : (s : start.Start) (r : Renderer D A (List A)) → 2 ≤ block_width r → after_start columns decoration s r ≡ refused TooNarrow → ⊥
    start_fits s r wide h = text_fits decoration.preformatted (decoration.start_text r.decorator s) (annotated decoration s r) wide h

    end_fits : (e : end.End) (r : Renderer D A (List A)) → 2 ≤ block_width r → after_end columns decoration e r ≡ refused TooNarrow → ⊥
    end_fits e r wide h = search (rules, text_fits, refused_before)

    image_fits : (source : List ℕ) (title : Option (List ℕ)) (r : Renderer D A (List A)) → 2 ≤ block_width r → after_titled columns decoration source title r ≡ refused TooNarrow → ⊥
    image_fits source None r wide h = cc
    image_fits source (Some title) r wide h = search (rules, start_fits, refused_before)

    call_fits : (c : Call (List A)) (r : Renderer D A (List A)) → 2 ≤ block_width r → made columns decoration c r ≡ refused TooNarrow → ⊥
    call_fits add_empty_line r wide h = flushed_fits (with_empty_line columns) r wide h
    call_fits new_line r wide h = flush_fits r wide h
    call_fits new_line_hard r wide h = grind (arith, flushed_fits, flush_fits)
    call_fits start_block r wide h = flushed_fits (block_started columns) r wide h
    call_fits start_table r wide h = flushed_fits (block_started columns) r wide h
    call_fits (add_inline_text cs) r wide h = text_fits decoration.preformatted cs r wide h
    call_fits (begin opened) r wide h = start_fits opened r wide h
    call_fits (finish closed) r wide h = end_fits closed r wide h
    call_fits start_strikeout r wide h =
        start_fits start.strikeout r wide
        (refused_before (λ (s : Renderer D A (List A)). struck_from s)
        (after_start columns decoration start.strikeout r) TooNarrow h)
    call_fits end_strikeout r wide h =
        end_fits end.strikeout (struck_until r) (cond_both r.options.use_unicode_strikeout _ r (λ (q : Renderer D A (List A)). 2 ≤ block_width q) (λ e. wide) (λ e. wide)) h
    call_fits (add_image source title) r wide h = image_fits source (shown_title r.options.img_mode source title) r wide h
    call_fits (add_border width) r wide h = flushed_fits (λ m. with_border columns m (border_of_cells horizontal width r)) r wide h
    call_fits (append_subrender prefixes lines) r wide h = flushed_fits (λ m. fold (with_line columns) m (prefixed r.annotations prefixes lines)) r wide h
    call_fits (append_vert_row cells) r wide h = flushed_fits (λ m. with_divider columns horizontal (with_cells columns m cells)) r wide h
    call_fits other r wide h = cc

    pub act_fits : (act : Act A) (r : Renderer D A (List A)) → 2 ≤ block_width r → ActIsTooNarrow columns decoration act r → ⊥
    act_fits (call c) r wide h = call_fits c r wide h
    act_fits (row collapses cells) r wide h = flush_fits r wide h
    act_fits (fmt_links links) r wide h = h
    act_fits (finalise targets) r wide h = h
