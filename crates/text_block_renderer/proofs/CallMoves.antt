-- Calls as the moves of which they consist.
use Rattle.text_block_renderer.proofs.Common.{◌≡◌, ℕ, suc, Bool, true, false, if◌then◌else◌, Option, Some, None, List, [], ◌∷◌, ◌++◌, flat_map, fold, refl, ap, sym, append-nil, arith, Each, cond_both}
use Rattle.text_block_renderer.proofs.Common.{entry, Entry, marker_entry, Item, Decoration, Renderer, with_line, without_annotation, entries_of, ignores, with_events, done, run, told_by}
use Rattle.text_block_renderer.proofs.Common.{with_empty_line, block_started, text_brings, at_line_start, with_border, border_of_cells, prefixed, with_divider, with_cells, horizontal, shown_title}
use Rattle.text_block_renderer.proofs.Common.{struck_from, struck_until, asked_to_close, annotated, Call, add_empty_line, new_line, new_line_hard, start_block, start_table, add_inline_text}
use Rattle.text_block_renderer.proofs.Common.{record_frag_start, begin, finish, start_strikeout, end_strikeout, add_image, push_colour, pop_colour, add_border, append_subrender, append_vert_row}
use Rattle.text_block_renderer.proofs.Common.{after, Does, Steps, text_brought, image_brought, entries_brought, brought, Brings, borders_added, laid, flush_ends, empty_adds, start_lays, start_adds}
use Rattle.text_block_renderer.proofs.Common.{text_adds, image_adds, call_adds, calls_add, AppendsNothing}
use Rattle.tbr_wrap.proofs.runs.BlockLaws.{entries_run}
use Rattle.tbr_decor.specs.Start as start
use Rattle.tbr_decor.specs.End as end
use Rattle.tbr_tagged.proofs.Outcomes.{live_done}
use Rattle.tbr_renderer.proofs.OutcomeParts.{one_done, done_first}
use Rattle.tbr_renderer.proofs.FlushedBlocks.{flushes}
use Rattle.tbr_renderer.proofs.CallParts.{FlushesThen, flushed_then, BreaksLine, break_parts, AddsTextBy, AddsText, text_parts, close_parts, open_parts, AddsImage, image_parts}
use Rattle.tbr_renderer.specs.Calls.{made}
use Rattle.tbr_renderer.proofs.FlushedBlocks.{flush_beside, flushed_none}
use Rattle.text_block_renderer.proofs.Moves.{flush, line, join, SameText, alike, Kind, any, own, Fits, MayLay, MayRule, Frame, Course, onward, one, same_course, flushed_first, stays, turned}
use Rattle.text_block_renderer.proofs.Moves.{path_frame}
use Rattle.text_block_renderer.proofs.AppendedMoves.{lines_appended, border_added, cells_appended}

-- ---- kinds

may_lay_nothing : (T : Type 0) (kind : Kind) → MayLay {T = T} kind []
may_lay_nothing T kind = grind arith

-- A call that appends something is of any kind.
abbrev pub Suits : {T : Type 0} → Kind → Call T → Type 0
Suits kind c = (AppendsNothing c → ⊥) → MayRule kind

may_lay : {T : Type 0} (kind : Kind) → MayRule kind → (is : List (Item T)) → MayLay kind is
may_lay any h is = tt
may_lay own h is = absurd h

all_suit : {T : Type 0} (kind : Kind) (calls : List (Call T)) → Fits kind calls → Each (Suits kind) calls
all_suit kind [] h = tt
all_suit any (c ∷ cs) h = ((λ appends. tt), all_suit any cs tt)
all_suit own (c ∷ cs) h = ((λ appends. absurd (appends h.0)), all_suit own cs h.1)

-- ---- calls

module _ {D A : Type 0} (columns : ℕ → Option ℕ) (kind : Kind) where
  empty_put : (r : Renderer D A (List A)) → r.block ≡ None → Course columns kind r (with_empty_line columns r) [] [] (laid r [] ∷ [])
  empty_put r none =
      let q : Renderer D A (List A) = with_line columns r [] in
      onward columns kind r q (with_empty_line columns r) [] [] (one columns kind (line r []) r q (may_lay_nothing (List A) kind, none, refl, refl))
      (turned columns kind q (with_empty_line columns r) (with_empty_line columns r) (alike q) refl)

  empty_added : (r s : Renderer D A (List A)) → FlushesThen columns (with_empty_line columns) r s → Course columns kind r s [] [] (empty_adds columns r)
  empty_added r s h = flushed_first columns kind (with_empty_line columns) (λ m. laid m [] ∷ []) r s [] h (empty_put h.0 (flushed_none columns r h.0 h.1))

  begun : (r : Renderer D A (List A)) → r.block ≡ None → Course columns kind r (block_started columns r) [] [] (start_lays r)
  begun r none = grind (arith, empty_put, turned, alike)

  started : (r s : Renderer D A (List A)) → FlushesThen columns (block_started columns) r s → Course columns kind r s [] [] (start_adds columns r)
  started r s h = flushed_first columns kind (block_started columns) start_lays r s [] h (begun h.0 (flushed_none columns r h.0 h.1))

  broken : (r s : Renderer D A (List A)) (at : Bool) → BreaksLine columns at r s → Course columns kind r s [] [] (if at then empty_adds columns r else flush_ends r)
  broken r s true h = empty_added r s h
  broken r s false h = one columns kind (flush r) r s (refl, h)

  module _ (preformatted : D → Bool → A) where
    entries_started : (cs : List ℕ) (r s : Renderer D A (List A)) → FlushesThen columns (block_started columns) r s → entries_of columns preformatted s cs ≡ entries_of columns preformatted r cs
    entries_started cs r s h = grind (arith, flush_beside)

    text_joined : (cs : List ℕ) (r s : Renderer D A (List A)) → s ≡ with_events r (text_brings columns preformatted cs r) → Course columns kind r s (entries_of columns preformatted r cs) [] []
    text_joined cs r s h = same_course columns kind r s (entries_run (entries_of columns preformatted r cs)) refl refl (one columns kind (join (text_brings columns preformatted cs r)) r s h)

    text_added : (ignored ended : Bool) (cs : List ℕ) (r s : Renderer D A (List A)) → AddsTextBy columns preformatted ignored ended cs r s →
        Course columns kind r s (if ignored then [] else entries_of columns preformatted r cs) [] (if ignored then [] else if ended then start_adds columns r else [])
    text_added true ended cs r s h = stays columns kind r s h
    text_added false false cs r s h = text_joined cs r s h
    text_added false true cs r s h =
        same_course columns kind r s (entries_started cs r h.0 h.1) refl (append-nil (start_adds columns r))
        (onward columns kind r h.0 s [] (entries_of columns preformatted h.0 cs) (started r h.0 h.1) (text_joined cs h.0 s h.2))

  -- ---- decorated text

  module _ (decoration : Decoration D A) where
    struck_from_same : (r : Renderer D A (List A)) → SameText r (struck_from r)
    struck_from_same r = cond_both r.options.use_unicode_strikeout (record r { strikeouts = suc r.strikeouts }) r (SameText r) (λ e. alike r) (λ e. alike r)

    struck_until_same : (r : Renderer D A (List A)) → SameText r (asked_to_close decoration end.strikeout (struck_until r))
    struck_until_same r = grind (arith, alike)

    added : (cs : List ℕ) (r s : Renderer D A (List A)) → AddsText columns decoration.preformatted cs r s → Course columns kind r s (text_brought columns decoration cs r) [] (text_adds columns cs r)
    added cs r s h = text_added decoration.preformatted (ignores r cs) r.block_ended cs r s h

    -- Text comes to a renderer that is as another but for what isn't text, and then a change comes of what isn't.
    text_between : (cs : List ℕ) (change : Renderer D A (List A) → Renderer D A (List A)) (r q s : Renderer D A (List A)) → SameText r q → ((m : Renderer D A (List A)) → SameText m (change m)) →
        (m : Renderer D A (List A)) × AddsText columns decoration.preformatted cs q m × (s ≡ change m) → Course columns kind r s (text_brought columns decoration cs q) [] (text_adds columns cs q)
    text_between cs change r q s before after (m, adds, is) =
        let es = text_brought columns decoration cs q in
        let come = onward columns kind r q m [] es (turned columns kind r q q before refl) (added cs q m adds) in
        same_course columns kind r s (append-nil es) refl (append-nil (text_adds columns cs q)) (onward columns kind r m s es [] come (turned columns kind m (change m) s (after m) is))

    image_added : (source : List ℕ) (title : Option (List ℕ)) (r s : Renderer D A (List A)) →
        AddsImage columns decoration source title r s →
        Course columns kind r s (image_brought columns decoration source title r) []
        (image_adds columns decoration source title r)
    image_added source None r s h = stays columns kind r s h
    image_added source (Some title) r s h =
        let image = start.image source title in
        text_between (decoration.start_text r.decorator image) (λ m. without_annotation m) r (annotated decoration image r) s (alike r) (λ m. alike m) h

    made_moves : (c : Call (List A)) (r s : Renderer D A (List A)) → Suits kind c →
        made columns decoration c r ≡ done s →
        Course columns kind r s (entries_brought columns decoration c r) (borders_added r.width r.options c)
        (call_adds columns decoration c r)
    made_moves add_empty_line r s suits h = empty_added r s (flushed_then columns (with_empty_line columns) r s h)
    made_moves new_line r s suits h = one columns kind (flush r) r s (refl, flushes columns r s h)
    made_moves new_line_hard r s suits h = broken r s (at_line_start columns r r.block) (break_parts columns (at_line_start columns r r.block) r s h)
    made_moves start_block r s suits h = started r s (flushed_then columns (block_started columns) r s h)
    made_moves start_table r s suits h = started r s (flushed_then columns (block_started columns) r s h)
    made_moves (add_inline_text cs) r s suits h = added cs r s (text_parts columns decoration.preformatted cs r s h)
    made_moves (record_frag_start name) r s suits h = one columns kind (join (entry (marker_entry name) ∷ [])) r s (one_done _ s h)
    made_moves (begin opened) r s suits h =
        let cs = decoration.start_text r.decorator opened in
        let q = annotated decoration opened r in
        text_between cs (λ m. m) r q s (alike r) (λ m. alike m) (s, text_parts columns decoration.preformatted cs q s h, refl)
    made_moves (finish closed) r s suits h =
        text_between (decoration.end_text r.decorator closed) (λ m. without_annotation m) r (asked_to_close decoration closed r) s (alike r) (λ m. alike m)
        (close_parts columns decoration closed r s h)
    made_moves start_strikeout r s suits h =
        text_between (decoration.start_text r.decorator start.strikeout) (λ m. struck_from m) r (annotated decoration start.strikeout r) s (alike r) struck_from_same
        (open_parts columns decoration start.strikeout (λ m. struck_from m) r s h)
    made_moves end_strikeout r s suits h =
        let q = struck_until r in
        text_between (decoration.end_text q.decorator end.strikeout) (λ m. without_annotation m) r (asked_to_close decoration end.strikeout q) s (struck_until_same r) (λ m. alike m)
        (close_parts columns decoration end.strikeout q s h)
    made_moves (add_image source title) r s suits h =
        image_added source (shown_title r.options.img_mode source title) r s
        (image_parts columns decoration source (shown_title r.options.img_mode source title) r s h)
    made_moves (push_colour g colour) r s suits h = grind (arith, turned, alike, one_done)
    made_moves (pop_colour g) r s suits h = grind (arith, turned, alike, one_done)
    made_moves (add_border width) r s suits h = border_added columns kind width r s (suits (λ no. no)) (flushed_then columns (λ m. with_border columns m (border_of_cells horizontal width r)) r s h)
    made_moves (append_subrender prefixes lines) r s suits h =
        lines_appended columns kind prefixes lines r s (may_lay kind (suits (λ no. no)))
        (flushed_then columns (λ m. fold (with_line columns) m (prefixed r.annotations prefixes lines)) r s h)
    made_moves (append_vert_row cells) r s suits h =
        cells_appended columns kind (may_lay kind (suits (λ no. no))) cells r s (suits (λ no. no))
        (flushed_then columns (λ m. with_divider columns horizontal (with_cells columns m cells)) r s h)
    made_moves call r s suits h = turned columns kind r _ s (alike r) (one_done _ s h)

    pub call_moves : (c : Call (List A)) (r s : Renderer D A (List A)) → Suits kind c → Does columns decoration c r s →
        Course columns kind r s (entries_brought columns decoration c r) (borders_added r.width r.options c)
        (call_adds columns decoration c r)
    call_moves c r s suits h = made_moves c r s suits (live_done r.failure (made columns decoration c r) s h).1

    steps_move : (calls : List (Call (List A))) (r s : Renderer D A (List A)) → Each (Suits kind) calls → Steps columns decoration calls r s →
        Course columns kind r s (brought columns decoration calls r) (flat_map (borders_added r.width r.options) calls) (calls_add columns decoration calls r)
    steps_move [] r s suit h = stays columns kind r s (one_done r s h)
    steps_move (c ∷ cs) r s suit h =
        let (m, does, steps) = done_first (after columns decoration c r) (run (after columns decoration) cs) s h in
        let first = entries_brought columns decoration c r in
        let adds = call_adds columns decoration c r in
        let path = call_moves c r m suit.0 does in
        let same = path_frame columns kind r m first _ path in
        let others = steps_move cs m s suit.1 steps in
        same_course columns kind r s (ap (λ o. first ++ told_by (brought columns decoration cs) o) (sym does))
        (ap (λ (f : Frame A). borders_added r.width r.options c ++ flat_map (borders_added f.width f.options) cs) same)
        (ap (λ o. adds ++ told_by (calls_add columns decoration cs) o) (sym does)) (onward columns kind r m s first (brought columns decoration cs m) path others)

    pub calls_move : (calls : List (Call (List A))) (r s : Renderer D A (List A)) (es : List (Entry (List A))) → Fits kind calls → Brings columns decoration calls r es s →
        Course columns kind r s es (flat_map (borders_added r.width r.options) calls) (calls_add columns decoration calls r)
    calls_move calls r s es fits h = same_course columns kind r s (sym h.1) refl refl (steps_move calls r s (all_suit kind calls fits) h.0)
