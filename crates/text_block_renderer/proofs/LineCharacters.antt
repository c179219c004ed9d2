-- The characters of lines have columns.
use Rattle.text_block_renderer.proofs.Common.{◌≡◌, ◌≢◌, ◌+◌, ℕ, inl, inr, not, Bool, Option, None, Some, List, [], ◌∷◌, ◌++◌, map, flat_map, fold, replicate, drop, refl, subst, sym, arith, cond_both}
use Rattle.text_block_renderer.proofs.Common.{Each, Event, run_of, Entry, character, marker_entry, Item, glyph, marker, is_kept, marker_items, text_items, spaces, padding_of, Hole, Border, shown}
use Rattle.text_block_renderer.proofs.Common.{shown_from, without_holes, horizontal, slash, DrawsInOne, Line, text, border, Decoration, Open, Renderer, with_line, block_width, line_padding}
use Rattle.text_block_renderer.proofs.Common.{block_lines, lines_at_end, with_border, border_line, border_of_cells, as_text, prefixed, with_cell, with_cell_below, with_cells, with_divider, done}
use Rattle.text_block_renderer.proofs.Common.{element_items, text_before}
use Rattle.std.specs.Prelude.{IsTrue, is_some, slice_range}
use Rattle.std.proofs.lemmas.Bool.{and_parts}
use Rattle.tbr_model.specs.Width.{takes_one_column}
use Rattle.tbr_model.specs.declared.white_space.WhiteSpace.{WhiteSpace}
use Rattle.tbr_model.specs.Run.{is_break}
use Rattle.tbr_model.specs.Rule.{lines_of}
use Rattle.tbr_model.specs.Layout.{joined}
use Rattle.tbr_model.proofs.lists.Each.{each_append, each_front, each_back, each_map}
use Rattle.tbr_model.proofs.rule.Walk.{MayJoin}
use Rattle.tbr_model.proofs.lines.EachItem.{Brings, each_on_lines}
use Rattle.tbr_border.specs.Cell.{Cell}
use Rattle.tbr_border.specs.Border.{drawn}
use Rattle.tbr_border.specs.Cell as cell
use Rattle.tbr_rows.proofs.FilledCells.{spaces_narrow, drawn_narrow}
use Rattle.tbr_renderer.proofs.FlushedBlocks.{FlushesBlock}
use Rattle.text_block_renderer.specs.Columns.{TextHasColumns, ItemHasColumns, ItemsHaveColumns, LineHasColumns, LinesHaveColumns, RendererHasColumns}

-- what joins a word has columns, and so has what borders are drawn with
joins_have : (columns : ℕ → Option ℕ) (c : ℕ) (mode : WhiteSpace) → MayJoin columns mode c → columns c ≢ None
joins_have columns c mode (inl kept) none = let some = (and_parts (is_some (columns c)) (not (is_break c)) kept).0 in cc
joins_have columns c mode (inr blank) none = blank.2 none

known : (columns : ℕ → Option ℕ) → DrawsInOne columns → (c : ℕ) → IsTrue (takes_one_column c) → columns c ≢ None
known columns draws c narrow none = let one = draws c narrow in cc

markers_have : (T : Type 0) (columns : ℕ → Option ℕ) (names : List (List ℕ)) → ItemsHaveColumns {T = T} columns (marker_items names)
markers_have T columns [] = tt
markers_have T columns (name ∷ names) = (tt, markers_have T columns names)

more_lines : {T : Type 0} (columns : ℕ → Option ℕ) (old new : List (Line T)) → LinesHaveColumns columns old → LinesHaveColumns columns new → LinesHaveColumns columns (old ++ new)
more_lines columns old new h k = each_append (LineHasColumns columns) old new h k

module _ {T : Type 0} (columns : ℕ → Option ℕ) where
  abbrev pub Have : List (Item T) → Type 0
  Have is = ItemsHaveColumns columns is

  pub text_has : (cs : List ℕ) (tag : T) → TextHasColumns columns cs → Have (text_items cs tag)
  text_has cs tag h = each_map (λ c. glyph c tag) (λ c. columns c ≢ None) (ItemHasColumns columns) (λ c k. k) cs h

  pub apart : (texts : List (List (Item T))) → Have (joined texts) → Each Have texts
  apart [] h = tt
  apart (is ∷ texts) h = (each_front (ItemHasColumns columns) is (joined texts) h, apart texts (each_back (ItemHasColumns columns) is (joined texts) h))

  -- ---- a run

  entries_bring : (es : List (Entry T)) → Each (Brings columns (ItemHasColumns columns) (λ a. Unit {0})) es
  entries_bring [] = tt
  entries_bring (character c a b mode ∷ es) = ((tt, tt, λ x _ may. joins_have columns c mode may), entries_bring es)
  entries_bring (marker_entry name ∷ es) = (tt, entries_bring es)

  module _ (draws : DrawsInOne columns) where
    pub narrow_has : (cs : List ℕ) (tag : T) → Each (λ c. IsTrue (takes_one_column c)) cs → Have (text_items cs tag)
    narrow_has cs tag h = each_map (λ c. glyph c tag) (λ c. IsTrue (takes_one_column c)) (ItemHasColumns columns) (known columns draws) cs h

    pub spaces_have : (n : ℕ) (tag : T) → Have (text_items (spaces n) tag)
    spaces_have n tag = narrow_has (spaces n) tag (spaces_narrow n)

    pub padding_has : (padding : Option T) (width : ℕ) (is : List (Item T)) → Have (padding_of columns padding width is)
    padding_has None width is = tt
    padding_has (Some tag) width is = grind (arith, spaces_have)

    -- Whatever comes, the lines of a run have such characters alone.
    pub run_has : (width : ℕ) (events : List (Event T)) → Each Have (lines_of columns width events)
    run_has width events = apart (lines_of columns width events)
        (each_on_lines columns (ItemHasColumns columns) (λ a. Unit {0}) (λ a _. known columns draws 32 refl) width events (entries_bring (run_of events)))

    -- ---- what borders show

    drawn_has : (cells : List Cell) (tag : T) → Have (drawn cells tag)
    drawn_has cells tag = narrow_has (map cell.character cells) tag (drawn_narrow cells)

    shown_from_has : (tag : T) (cells : List Cell) (at : ℕ) (hs : List (Hole T)) → Have (flat_map (λ (h : Hole T). element_items h.element) hs) → Have (shown_from tag cells at hs)
    shown_from_has tag cells at [] k = drawn_has (drop at cells) tag
    shown_from_has tag cells at (h ∷ hs) k =
        let front = element_items h.element in
        let rest = flat_map (λ (i : Hole T). element_items i.element) hs in
        let next = shown_from tag cells (h.place + h.width) hs in
        each_append (ItemHasColumns columns) (drawn (slice_range cells at h.place) tag) (front ++ next) (drawn_has (slice_range cells at h.place) tag)
        (each_append (ItemHasColumns columns) front next (each_front (ItemHasColumns columns) front rest k)
        (shown_from_has tag cells (h.place + h.width) hs (each_back (ItemHasColumns columns) front rest k)))

    -- a border shows what is in front of it
    pub border_has : (tag : T) (b : Border T) → Have (text_before b) → Have (shown tag b)
    border_has tag b k = shown_from_has tag b.cells 0 b.holes k

  front_from_has : (tag : T) (cells : List Cell) (at : ℕ) (hs : List (Hole T)) → Have (shown_from tag cells at hs) → Have (flat_map (λ (h : Hole T). element_items h.element) hs)
  front_from_has tag cells at [] k = tt
  front_from_has tag cells at (h ∷ hs) k =
      let front = element_items h.element in
      let next = shown_from tag cells (h.place + h.width) hs in
      let there = each_back (ItemHasColumns columns) (drawn (slice_range cells at h.place) tag) (front ++ next) k in
      each_append (ItemHasColumns columns) front (flat_map (λ (i : Hole T). element_items i.element) hs) (each_front (ItemHasColumns columns) front next there)
      (front_from_has tag cells (h.place + h.width) hs (each_back (ItemHasColumns columns) front next there))

  pub front_has : (tag : T) (b : Border T) → Have (shown tag b) → Have (text_before b)
  front_has tag b k = front_from_has tag b.cells 0 b.holes k

module _ {T : Type 0} (columns : ℕ → Option ℕ) (draws : DrawsInOne columns) where
  -- ---- lines as text

  pub line_as_text : (tag : T) (line : Line T) → LineHasColumns columns line → Have columns (as_text tag line)
  line_as_text tag (text is) h = h
  line_as_text tag (border b) h = border_has columns draws tag b (front_has columns b.tag b h)

  pub lines_as_text : (tag : T) (lines : List (Line T)) → LinesHaveColumns columns lines → Each (Have columns) (map (as_text tag) lines)
  lines_as_text tag lines h = each_map (as_text tag) (LineHasColumns columns) (Have columns) (line_as_text tag) lines h

  pub prefixed_have : (tag : T) (prefixes : List (List ℕ)) (lines : List (Line T)) → Each (TextHasColumns columns) prefixes → LinesHaveColumns columns lines → Each (Have columns)
      (prefixed tag prefixes lines)
  prefixed_have tag [] lines h k = tt
  prefixed_have tag (p ∷ ps) [] h k = tt
  prefixed_have tag (p ∷ ps) (line ∷ lines) h k =
      (each_append (ItemHasColumns columns) (text_items p tag) (as_text tag line) (text_has columns p tag h.0) (line_as_text tag line k.0), prefixed_have tag ps lines h.1 k.1)

module _ {D A : Type 0} (columns : ℕ → Option ℕ) (draws : DrawsInOne columns) where
  abbrev pub Has : Renderer D A (List A) → Type 0
  Has r = RendererHasColumns columns r

  filled_has : (r : Renderer D A (List A)) (is : List (Item (List A))) → Have columns is → Have columns (is ++ line_padding columns r is)
  filled_has r is h = each_append (ItemHasColumns columns) is (line_padding columns r is) h (padding_has columns draws _ r.width is)

  pub line_put : (r : Renderer D A (List A)) (is : List (Item (List A))) → Have columns is → Has r → Has (with_line columns r is)
  line_put r is h k =
      let marked = marker_items r.waiting ++ is in
      (more_lines columns r.lines _ k.0 (filled_has r marked (each_append (ItemHasColumns columns) (marker_items r.waiting) is (markers_have (List A) columns r.waiting) h), tt), k.1)

  pub lines_put : (texts : List (List (Item (List A)))) (r : Renderer D A (List A)) → Each (Have columns) texts → Has r → Has (fold (with_line columns) r texts)
  lines_put [] r h k = k
  lines_put (is ∷ texts) r h k = lines_put texts (with_line columns r is) h.1 (line_put r is h.0 k)

  pub border_line_has : (r : Renderer D A (List A)) (b : Border (List A)) → Have columns (text_before b) → LineHasColumns columns (border_line columns r b)
  border_line_has r b h =
      let is = shown b.tag b in
      let shows = border_has columns draws b.tag b h in
      cond_both r.options.pad_block_width (text (is ++ line_padding columns r is)) (border b) (LineHasColumns columns) (λ e. filled_has r is shows) (λ e. shows)

  pub border_put : (r : Renderer D A (List A)) (b : Border (List A)) → Have columns (text_before b) → Has r → Has (with_border columns r b)
  border_put r b h k = (more_lines columns r.lines (border_line columns r b ∷ []) k.0 (border_line_has r b h, tt), k.1)

  -- ---- the end of the open run

  block_has : (r : Renderer D A (List A)) (b : Open (List A)) → Each (Have columns) (block_lines columns r b (lines_at_end columns r b))
  block_has r b =
      each_map (λ is. is ++ padding_of columns b.padding (block_width r) is) (Have columns) (Have columns)
      (λ is h. each_append (ItemHasColumns columns) is (padding_of columns b.padding (block_width r) is) h (padding_has columns draws b.padding (block_width r) is))
      (lines_at_end columns r b) (run_has columns draws (block_width r) b.events)

  pub flush_keeps : (r s : Renderer D A (List A)) (o : Option (Open (List A))) → FlushesBlock columns r o s → Has r → Has s
  flush_keeps r s None h k = subst (λ (q : Renderer D A (List A)). Has q) (sym h) k
  flush_keeps r s (Some b) h k = subst (λ (q : Renderer D A (List A)). Has q) (sym h.is) (lines_put (block_lines columns r b (lines_at_end columns r b)) (record r { block = None }) (block_has r b) k)

  -- ---- cells below one another

  divider_keeps : (c : Cell) (r : Renderer D A (List A)) → Has r → Has (with_divider columns c r)
  divider_keeps c r k = cond_both r.options.draw_borders (with_border columns r (border_of_cells c r.width r)) r Has (λ e. border_put r (border_of_cells c r.width r) tt k) (λ e. k)

  cell_put : (lines : List (Line (List A))) (r : Renderer D A (List A)) → LinesHaveColumns columns lines → Has r → Has (with_cell columns r lines)
  cell_put lines r h k = lines_put (map (as_text r.annotations) lines) r (lines_as_text columns draws r.annotations lines h) k

  others_put : (cells : List (List (Line (List A)))) (r : Renderer D A (List A)) → Each (LinesHaveColumns columns) cells → Has r → Has (fold (with_cell_below columns) r cells)
  others_put [] r h k = k
  others_put (lines ∷ cells) r h k = others_put cells (with_cell_below columns r lines) h.1 (cell_put lines (with_divider columns slash r) h.0 (divider_keeps slash r k))

  cells_put : (cells : List (List (Line (List A)))) (r : Renderer D A (List A)) → Each (LinesHaveColumns columns) cells → Has r → Has (with_cells columns r cells)
  cells_put [] r h k = k
  cells_put (lines ∷ cells) r h k = others_put cells (with_cell columns r lines) h.1 (cell_put lines r h.0 k)

  pub cells_below : (cells : List (List (Line (List A)))) (r : Renderer D A (List A)) → Each (LinesHaveColumns columns) cells → Has r → Has
      (with_divider columns horizontal (with_cells columns r cells))
  cells_below cells r h k = divider_keeps horizontal (with_cells columns r cells) (cells_put cells r h k)
