-- The lines of a run are together, and no legal layout is ahead of them.
use Rattle.text_block_renderer.proofs.Common.{◌≡◌, ℕ, ◌⊎◌, inr, Bool, false, not, Option, Some, None, List, [], ◌∷◌, ◌++◌, map, flat_map, take, drop, refl, ap, sym, ◌∙◌, subst, arith, append_assoc}
use Rattle.text_block_renderer.proofs.Common.{append-nil, rules, Each, map-map, eqb-true, both_ways, false_from_ne_true, length-map, map-append, take-map, take-append-drop, filter-append, Entry}
use Rattle.text_block_renderer.proofs.Common.{character, marker_entry, Item, kept_items, Word, words_of, trailing, Slot, slot_of, slots_within, word_slots, slots_of, rest_text, is_space_item, run_of}
use Rattle.text_block_renderer.proofs.Common.{Event, without_spaces, HasBestLines, Decoration, Line, Open, Renderer, with_events, with_more, block_width, IsSound, done, lines_at_end, after_flush}
use Rattle.text_block_renderer.proofs.Common.{Call, Steps, Brings, stretch, items_on, NoneIsAhead, StandsAsStretch, StaysOpen, EndsAsStretch}
use Rattle.tbr_model.proofs.rule.HardLines.{run_of-append}
use Rattle.tbr_model.specs.Layout.{line_text, joined, placed}
use Rattle.tbr_model.proofs.lists.Each.{each_front, each_back, each_append, each_map}
use Rattle.tbr_model.proofs.lists.Joined.{joined-append}
use Rattle.tbr_model.proofs.words.Items.{break_lost}
use Rattle.tbr_model.proofs.words.KeptItems.{words_hold}
use Rattle.tbr_renderer.proofs.FlushedBlocks.{flushes, EndsBlock, FlushesBlock, Flushes}
use Rattle.text_block_renderer.proofs.Moves.{Move, flush, join, turn, brought, MakesAll, any, sound_alike}
use Rattle.text_block_renderer.proofs.CallMoves.{calls_move}
use Rattle.text_block_renderer.proofs.AddedLines.{moves_grow, steps_grow, laid_lines}

-- ---- items of lines

abbrev IsNoSpace : {T : Type 0} → Item T → Type 0
IsNoSpace i = is_space_item i ≡ false

module _ {T : Type 0} where
  unspaced_rest : (ss : List (Slot T)) → Each (λ s. IsNoSpace s.item) ss → without_spaces (rest_text ss) ≡ map (λ s. s.item) ss
  unspaced_rest [] h = refl
  unspaced_rest (s ∷ ss) h = grind (arith, unspaced_rest ss h.1)

  unspaced_line : (ss : List (Slot T)) → Each (λ s. IsNoSpace s.item) ss → without_spaces (line_text ss) ≡ map (λ s. s.item) ss
  unspaced_line ss h = grind (arith, unspaced_rest)

  unspaced_lines : (ls : List (List (Slot T))) → Each (λ s. IsNoSpace s.item) (joined ls) → without_spaces (joined (map line_text ls)) ≡ map (λ s. s.item) (joined ls)
  unspaced_lines [] h = refl
  unspaced_lines (l ∷ ls) h = search (rules, filter-append, not, unspaced_line, each_front, each_back, map-append, unspaced_lines ls (each_back (λ s. IsNoSpace s.item) l (joined ls) h))

  -- as many items are on the first lines as the layout has placed there
  placed_on : (n : ℕ) (ls : List (List (Slot T))) → Each (λ s. IsNoSpace s.item) (joined ls) → items_on n (map line_text ls) ≡ placed n ls
  placed_on n ls h = grind (arith, sym (joined-append (take n ls) (drop n ls)) ∙ ap joined (take-append-drop n ls), joined-append, take-append-drop, each_front, take-map, unspaced_lines, length-map)

-- ---- the slots of a run are no spaces

module _ {T : Type 0} (columns : ℕ → Option ℕ) where
  kept_no_spaces : (run : List (Entry T)) → Each IsNoSpace (kept_items columns run)
  kept_no_spaces [] = tt
  kept_no_spaces (marker_entry name ∷ es) = (refl, kept_no_spaces es)
  kept_no_spaces (character c a b m ∷ es) = grind (arith, false_from_ne_true, both_ways, eqb-true, break_lost, kept_no_spaces es)

  within_slots : (wider : Bool) (gap : Option T) (is : List (Item T)) → Each IsNoSpace is → Each (λ s. IsNoSpace s.item) (slots_within columns wider gap is)
  within_slots wider gap [] h = tt
  within_slots wider gap (i ∷ is) h = (h.0, each_map (slot_of columns wider None false) IsNoSpace (λ (s : Slot T). IsNoSpace s.item) (λ j k. k) is h.1)

  words_no_spaces : (width : ℕ) (ws : List (Word T)) → Each IsNoSpace (flat_map (λ w. w.items) ws) → Each (λ s. IsNoSpace s.item) (flat_map (word_slots columns width) ws)
  words_no_spaces width [] h = tt
  words_no_spaces width (w ∷ ws) h = search (rules, each_append, within_slots, each_front, each_back, words_no_spaces width ws)

  slots_no_spaces : (width : ℕ) (run : List (Entry T)) → Each (λ s. IsNoSpace s.item) (slots_of columns width run)
  slots_no_spaces width run =
      words_no_spaces width (words_of columns run)
      (each_front IsNoSpace (flat_map (λ w. w.items) (words_of columns run)) (trailing columns run) (subst (Each IsNoSpace) (sym (words_hold columns run)) (kept_no_spaces run)))

  pub none_ahead : (width : ℕ) (run : List (Entry T)) (texts : List (List (Item T))) → HasBestLines columns width run texts → NoneIsAhead columns width run texts
  none_ahead width run texts h others legal n = grind (arith, slots_no_spaces, placed_on)

-- ---- the lines that a run adds

module _ {D A : Type 0} (columns : ℕ → Option ℕ) where
  -- ---- the end of a run

  pub flush_adds : (r q : Renderer D A (List A)) (b : Open (List A)) → (h : EndsBlock columns r b q) → q.lines ≡ r.lines ++ stretch columns r b (lines_at_end columns r b)
  flush_adds r q b h = grind (arith, laid_lines, map-map)

  flush_stands : (r q s : Renderer D A (List A)) (b : Open (List A)) → r.block ≡ Some b → Flushes columns r q →
      IsSound columns r → (more : List (Line (List A))) × (s.lines ≡ q.lines ++ more) →
      StandsAsStretch columns r b s.lines
  flush_stands r q s b open_block_is flushes sound grows =
      let h : EndsBlock columns r b q = subst (λ (o : Option (Open (List A))). FlushesBlock columns r o q) open_block_is flushes in record {
        ends = h.ends sound;
        ahead = λ narrow normal. none_ahead columns (block_width r) (run_of b.events) (lines_at_end columns r b) ((h.ends sound).shown.best narrow normal);
        after = grows.0;
        is = grows.1 ∙ ap (λ ls. ls ++ grows.0) (flush_adds r q b h);
      }

  pub stands_for_good : (decoration : Decoration D A) (calls : List (Call (List A))) (r q s : Renderer D A (List A))
      (b : Open (List A)) → IsSound columns r → r.block ≡ Some b → after_flush columns r ≡ done q →
      Steps columns decoration calls q s → StandsAsStretch columns r b s.lines
  stands_for_good decoration calls r q s b sound open_block_is h steps = flush_stands r q s b open_block_is (flushes columns r q h) sound (steps_grow columns decoration calls q s steps)

  -- ---- an open run

  -- More came to the block, and nothing else of lines changed.
  abbrev Since : Renderer D A (List A) → Open (List A) → List (Event (List A)) → Renderer D A (List A) → Type 0
  Since r b es q = record r { lines = q.lines; block = q.block; waiting = q.waiting; width = q.width; options = q.options } ≡ record r { block = Some (with_more b es) }

  joined_more : (r q s : Renderer D A (List A)) (b : Open (List A)) (es more : List (Event (List A))) → Since r b es q → s ≡ with_events q more → Since r b (es ++ more) s
  joined_more r q s b es more since h = grind (arith, append_assoc)

  as_before : (r q : Renderer D A (List A)) (b : Open (List A)) (es : List (Event (List A))) (lines : List (Line (List A))) → Since r b es q →
      StandsAsStretch columns q (with_more b es) lines → StandsAsStretch columns (record r { annotations = q.annotations }) (with_more b es) lines
  as_before r q b es lines since h = grind arith

  run_ends : (ms : List (Move D A)) (r q s : Renderer D A (List A)) (b : Open (List A)) (es : List (Event (List A))) → Since r b es q → IsSound columns r → MakesAll columns any ms q s →
      StaysOpen r b (run_of es ++ brought ms) s ⊎ EndsAsStretch columns r b (run_of es ++ brought ms) s
  run_ends [] r q s b es since sound h = grind (arith, append-nil)
  run_ends (flush p ∷ ms) r q s b es since sound h = inr (record {
    more = es;
    later = brought ms;
    came = refl;
    annotations = q.annotations;
    stands =
        let width = ap (λ (p : Renderer D A (List A)). p.width) since in
        let options = ap (λ (p : Renderer D A (List A)). p.options) since in
        as_before r q b es s.lines since
        (flush_stands q h.0 s (with_more b es) (ap (λ (p : Renderer D A (List A)). p.block) since) h.1.1 (sound_alike columns r q width options sound) (moves_grow columns ms h.0 s h.2));
  })
  run_ends (join more ∷ ms) r q s b es since sound h =
      grind (arith, brought, run_of-append, append_assoc, joined_more, run_ends ms r h.0 s b (es ++ more) (joined_more r q h.0 b es more since h.1) sound h.2)
  run_ends (turn ∷ ms) r q s b es since sound h = run_ends ms r h.0 s b es (cc) sound h.2
  run_ends (other ∷ ms) r q s b es since sound h = absurd (let no : Some (with_more b es) ≡ None = sym (ap (λ (p : Renderer D A (List A)). p.block) since) ∙ h.1.1 in cc)

  pub brings_end : (decoration : Decoration D A) (calls : List (Call (List A))) (r s : Renderer D A (List A))
      (b : Open (List A)) (es : List (Entry (List A))) → IsSound columns r → r.block ≡ Some b →
      Brings columns decoration calls r es s → StaysOpen r b es s ⊎ EndsAsStretch columns r b es s
  brings_end decoration calls r s b es sound open_block_is h =
      let path = calls_move columns any decoration calls r s es tt h in
      let none_yet : Since r b [] r = grind (arith, append-nil) in
      subst (λ (fs : List (Entry (List A))). StaysOpen r b fs s ⊎ EndsAsStretch columns r b fs s) path.brings (run_ends path.moves r r s b [] none_yet sound path.makes)
