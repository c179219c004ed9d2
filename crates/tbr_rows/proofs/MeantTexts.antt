-- Lines of rows, gaps and what overhangs, under other tags.
use Rattle.tbr_rows.proofs.Common.{◌≡◌, if◌then◌else◌, ℕ, ◌+◌, ◌-◌, max, Bool, true, false, Option, None, Some, List, [], ◌∷◌, map, drop, refl, ap, sym, ◌∙◌, nat_lt, slice_range, option_map}
use Rattle.tbr_rows.proofs.Common.{length-map, drop-map, map-append, map_push, Item, glyph, marker, map_items, items_width-map, RenderLine, Text, Line, Segment, character, Hole, Border}
use Rattle.tbr_rows.proofs.Common.{SameHole, SameBorder, shown, shown_from, span_end, Element, piece, marker_element, element_items, items_of, text_items, SameElement, spaces, MeansEqual}
use Rattle.tbr_rows.proofs.Common.{means_same_items, Cell, Column, cell_height, first_line, row_height, filler_above, text_of_lines, cell_text, row_text, numbers_below, line_text}
use Rattle.tbr_rows.proofs.Common.{line_texts, HaveTexts, items_under, has_gap, with_element, with_elements, gap_of, gap_in, with_gap, overhang_of, overhang, character_before, longest, Row}
use Rattle.tbr_rows.proofs.Common.{cells_left, SeenRow, SameIfAny, IsLaidOut, map_hole, map_border, map_line, map_cell, map_column, row_meant, map-map}
use Rattle.tbr_model.specs.Mapped.{map_item}
use Rattle.tbr_rows.specs.Meant.{map_element}
use Rattle.tbr_rows.proofs.Squares.{map_both, flat_both, fold_both, if_both, zip_same}

module _ {A B : Type 0} (f : A → B) where
  pub text-map : (cs : List ℕ) (a : A) → map_items f (text_items cs a) ≡ text_items cs (f a)
  text-map cs a = rw map-map refl

  element-map : (e : Element A) → element_items (map_element f e) ≡ map_items f (element_items e)
  element-map (piece cs a) = sym (text-map cs a)
  element-map (marker_element name) = refl

  pub items-map : (es : List (Element A)) → items_of (map (map_element f) es) ≡ map_items f (items_of es)
  items-map es = flat_both (map_element f) element_items element_items (map_item f) element-map es

  shown_from-map : (a : A) (cells : List Segment) (at : ℕ) (hs : List (Hole A)) → shown_from (f a) cells at (map (map_hole f) hs) ≡ map_items f (shown_from a cells at hs)
  shown_from-map a cells at [] = sym (text-map (map character (drop at cells)) a)
  shown_from-map a cells at (h ∷ hs) =
      simp (map-append, text-map (map character (slice_range cells at h.place)) a, element-map h.element, shown_from-map a cells (h.place + h.width) hs)

  pub shown-map : (a : A) (b : Border A) → shown (f a) (map_border f b) ≡ map_items f (shown a b)
  shown-map a b = shown_from-map a b.cells 0 b.holes

  -- ---- lines of a row

  filler-map : (width : ℕ) (o : Option (Border A)) → filler_above width (option_map (map_border f) o) ≡ filler_above width o
  filler-map width None = refl
  filler-map width (Some b) = refl

  items_under-map : (a : A) (l : RenderLine A) → items_under (f a) (map_line f l) ≡ map_items f (items_under a l)
  items_under-map a (Text es) = items-map es
  items_under-map a (Line b) = shown-map a b

  text_of_lines-map : (a : A) (c : Column A) (ls : List (RenderLine A)) → text_of_lines (f a) (map_column f c) (map (map_line f) ls) ≡ map_items f (text_of_lines a c ls)
  text_of_lines-map a c [] = rw (filler-map c.cell.width c.bottom) (sym (text-map (filler_above c.cell.width c.bottom) a))
  text_of_lines-map a c (l ∷ ls) = items_under-map a l

  row_text-map : (separator : Item A) (ts : List (List (Item A))) → row_text (map_item f separator) (map (map_items f) ts) ≡ map_items f (row_text separator ts)
  row_text-map separator [] = refl
  row_text-map separator (t ∷ []) = refl
  row_text-map separator (t ∷ u ∷ ts) = rw (row_text-map separator (u ∷ ts), map-append) refl

  line_text-map : (s : ℕ) (a : A) (cs : List (Column A)) (i : ℕ) → line_text (glyph s (f a)) (f a) (map (map_column f) cs) i ≡ map_items f (line_text (glyph s a) a cs i)
  line_text-map s a cs i =
      ap (row_text (glyph s (f a))) (map_both (map_column f) (cell_text a i) (cell_text (f a) i) (map_items f)
      (λ c. rw drop-map (text_of_lines-map a c (drop i c.cell.lines))) cs)
      ∙ row_text-map (glyph s a) (map (cell_text a i) cs)

  pub line_texts-map : (s : ℕ) (a : A) (cs : List (Column A)) (height : ℕ) → line_texts (glyph s (f a)) (f a) (map (map_column f) cs) height ≡ map (map_items f) (line_texts (glyph s a) a cs height)
  line_texts-map s a cs height = simp map-map (λ i. map (λ n. line_text-map s a cs n i) (numbers_below height))

  pub row_height-map : (cs : List (Column A)) → row_height (map (map_column f) cs) ≡ row_height cs
  row_height-map cs =
      fold_both (map_column f) (λ h. h) (λ (n : ℕ) (c : Column A). max n (cell_height c.cell)) (λ (n : ℕ) (c : Column B). max n (cell_height c.cell))
      (λ n c. rw (length-map c.cell.lines (map_line f)) refl) 0 cs

  -- ---- what is left, and what overhangs

  pub cells_left-map : (height : ℕ) (cs : List (Column A)) → cells_left height (map (map_column f) cs) ≡ map (map_cell f) (cells_left height cs)
  cells_left-map height cs = simp (map-map, drop-map)

  overhang_of-map : (draws : Bool) (c : Cell A) → overhang_of draws (map_cell f c) ≡ map (map_cell f) (overhang_of draws c)
  overhang_of-map draws c =
      rw drop-map (if_both (map (map_cell f)) (nat_lt 1 c.span) (record c { span = c.span - 1; lines = drop (if draws then 1 else 0) c.lines } ∷ []) [])

  pub overhang-map : (draws : Bool) (cs : List (Cell A)) → overhang draws (map (map_cell f) cs) ≡ map (map_cell f) (overhang draws cs)
  overhang-map draws cs = flat_both (map_cell f) (overhang_of draws) (overhang_of draws) (map_cell f) (overhang_of-map draws) cs

  -- ---- elements in front of a border

  span_end-map : (hs : List (Hole A)) → span_end (map (map_hole f) hs) ≡ span_end hs
  span_end-map [] = refl
  span_end-map (h ∷ []) = refl
  span_end-map (h ∷ k ∷ hs) = span_end-map (k ∷ hs)

  with_elements-map : (columns : ℕ → Option ℕ) (place : ℕ) (b : Border A) (es : List (Element A)) →
      with_elements columns place (map_border f b) (map (map_element f) es) ≡ map_border f (with_elements columns place b es)
  with_elements-map columns place b es =
      fold_both (map_element f) (map_border f) (with_element columns place) (with_element columns place)
      (λ d e. rw (span_end-map d.holes, element-map e, items_width-map f columns (element_items e), map_push) refl) b es

  first_line-map : (ls : List (RenderLine A)) → first_line (map (map_line f) ls) ≡ option_map (map_line f) (first_line ls)
  first_line-map [] = refl
  first_line-map (l ∷ ls) = refl

  -- a row as it is seen, by what its tags mean
  abbrev pub seen_meant : SeenRow A → SeenRow B
  seen_meant seen = record {
    above = option_map (map_border f) seen.above;
    lines = map (map_items f) seen.lines;
    next = option_map (map_border f) seen.next;
    overhang = map (map_cell f) seen.overhang;
  }

  -- ---- where meanings are told apart as tags are

  module _ (eq : A → A → Bool) (same : B → B → Bool) (alike : (a b : A) → same (f a) (f b) ≡ eq a b) where
    before-map : (c : ℕ) (a : A) (es : List (Element A)) → character_before same c (f a) (map (map_element f) es) ≡ map (map_element f) (character_before eq c a es)
    before-map c a [] = refl
    before-map c a (marker_element name ∷ es) = refl
    before-map c a (piece cs b ∷ es) = rw (alike a b) (if_both (map (map_element f)) (eq a b) (piece (c ∷ cs) b ∷ es) (piece (c ∷ []) a ∷ piece cs b ∷ es))

    longest-map : (is : List (Item A)) → longest same (map_items f is) ≡ map (map_element f) (longest eq is)
    longest-map [] = refl
    longest-map (glyph c a ∷ is) = ap (character_before same c (f a)) (longest-map is) ∙ before-map c a (longest eq is)
    longest-map (marker name ∷ is) = ap (λ es. marker_element name ∷ es) (longest-map is)

    gap-map : (a : A) (width : ℕ) (o : Option (RenderLine A)) → gap_of same (f a) width (option_map (map_line f) o) ≡ map (map_element f) (gap_of eq a width o)
    gap-map a width None = refl
    gap-map a width (Some (Text line)) = refl
    gap-map a width (Some (Line b)) = ap (longest same) (shown-map b.tag b) ∙ longest-map (shown b.tag b)

    pub with_gap-map : (columns : ℕ → Option ℕ) (draws : Bool) (a : A) (b : Border A) (c : Cell A) →
        with_gap same columns draws (f a) (map_border f b) (map_cell f c) ≡ map_border f (with_gap eq columns draws a b c)
    with_gap-map columns draws a b c =
        let gap = gap_of eq a c.width (first_line c.lines) in
        rw (first_line-map c.lines, gap-map a c.width (first_line c.lines), if_both (map (map_element f)) (has_gap draws c) gap []) (with_elements-map columns c.place b (gap_in eq draws a c))

  -- ---- where equal tags mean the same

  module _ (eq : A → A → Bool) (means : MeansEqual f eq) where
    element_means : (e d : Element A) → SameElement eq e d → map_element f e ≡ map_element f d
    element_means (piece cs a) (piece ds b) h = rw (h.0, means a b h.1) refl
    element_means (marker_element m) (marker_element n) h = rw h refl
    element_means _ _ h = absurd h

    hole_means : (h k : Hole A) → SameHole eq h k → map_hole f h ≡ map_hole f k
    hole_means h k same = λ i. record { place = same.0 i; width = same.1 i; element = element_means h.element k.element same.2 i }

    border_means : (b c : Border A) → SameBorder eq b c → map_border f b ≡ map_border f c
    border_means b c h = λ i. record { cells = h.cells i; tag = means b.tag c.tag h.tag i; holes = zip_same (SameHole eq) (map_hole f) (map_hole f) hole_means b.holes c.holes h.holes i }

    next_means : (o p : Option (Border A)) → SameIfAny eq o p → option_map (map_border f) o ≡ option_map (map_border f) p
    next_means None None h = refl
    next_means (Some b) (Some c) h = ap Some (border_means b c h)
    next_means None (Some c) h = absurd h
    next_means (Some b) None h = absurd h

    pub texts_mean : (lines : List (List (Element A))) (texts : List (List (Item A))) → HaveTexts eq lines texts → map (λ es. map_items f (items_of es)) lines ≡ map (map_items f) texts
    texts_mean lines texts h = zip_same _ (λ es. map_items f (items_of es)) (map_items f) (λ es is k. means_same_items f eq means (items_of es) is k) lines texts h

    -- a row that is laid out is the one that is seen
    pub laid_means : (row : Row A) (seen : SeenRow A) → IsLaidOut eq row seen → row_meant f row ≡ seen_meant seen
    laid_means row seen h = λ i. record {
      above = option_map (map_border f) (h.upper i);
      lines = texts_mean row.lines.items seen.lines h.texts i;
      next = next_means row.next seen.next h.lower i;
      overhang = map (map_cell f) (h.rest i);
    }
