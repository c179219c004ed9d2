-- What is in the border below a row.
use Rattle.tbr_rows.proofs.Common.{◌≡◌, ℕ, zero, suc, ◌+◌, ◌-◌, ◌≤◌, max, Bool, true, false, Option, None, Some, List, [], ◌∷◌, ◌++◌, map, fold, drop, length, refl, ap, sym, ◌∙◌, subst}
use Rattle.tbr_rows.proofs.Common.{arith, append_assoc, append-nil, slice_range, Each, map-append, drop-drop, cond_both, fold-append, Item, items_width, Element, element_items, items_of}
use Rattle.tbr_rows.proofs.Common.{text_items, Segment, Side, above, character, Hole, Border, span_end, opened, stretched, merged, drawn, shown_from, shown, length-stretched, Cell}
use Rattle.tbr_rows.proofs.Common.{RenderLine, Text, Line, AreSideBySide, end_of, first_line, row_width, separators, Fills, IsFilled, HasInColumns, joined, last_mergeable, merged_with}
use Rattle.tbr_rows.proofs.Common.{merged_above, has_gap, with_element, with_elements, gap_of, gap_in, with_gap, TellsApart, cells_under, next_under, next_merged, next_begun, RowStyle}
use Rattle.tbr_rows.proofs.Common.{DrawsInOne, HolesFill}
use Rattle.std.proofs.Common.{take-add}
use Rattle.std.specs.Prelude.{⊤}
use Rattle.std.proofs.lemmas.List.Folds.{drop_split}
use Rattle.tbr_border.specs.Cell.{joined as joined_cell}
use Rattle.tbr_border.specs.Border.{joined_under}
use Rattle.tbr_border.proofs.HolesInOrder.{last_end, span_end-is}
use Rattle.tbr_border.proofs.JoinedCells.{length-changed}
use Rattle.tbr_rows.proofs.Stretches.{longest_items}
use Rattle.tbr_rows.proofs.CellColumns.{width_append}
use Rattle.tbr_rows.proofs.FilledCells.{spaces_width, fill_later, part_width}
use Rattle.tbr_rows.proofs.ColumnsOfRows.{takes}

-- ---- a border that changes is no shorter

length-under : (side : Side) (cells : List Segment) (place : ℕ) (others : List Segment) → length (joined_under side cells place others) ≡ length cells
length-under side [] place others = refl
length-under side (c ∷ cells) (suc place) others = omega (arith, length-under side cells place others)
length-under side (c ∷ cells) zero [] = refl
length-under side (c ∷ cells) zero (o ∷ others) = omega (arith, length-under side cells zero others)

length-opened : (place end : ℕ) (cells : List Segment) → length (opened place end cells) ≡ length cells
length-opened zero end cells = length-changed _ end cells
length-opened (suc place) end cells = length-changed _ end _ ∙ length-changed _ place cells

merged_longer : (side : Side) (cells : List Segment) (place : ℕ) (others : List Segment) → length cells ≤ length (merged side cells place others)
merged_longer side cells place others = grind (arith, ℕ, cond_both, length-under, length-stretched)

module _ {A : Type 0} where
  -- as long at least, with nothing in front of it either
  abbrev KeepsPlain : Border A → Border A → Type 0
  KeepsPlain b m = (length b.cells ≤ length m.cells) × (b.holes ≡ [] → m.holes ≡ [])

  merged_plain : (side : Side) (place : ℕ) (b : Border A) (o : Option (Border A)) → KeepsPlain b (merged_with side place b o)
  merged_plain side place b None = (omega arith, λ e. e)
  merged_plain side place b (Some o) = (merged_longer side b.cells place o.cells, λ e. e)

  keeps_all : {X : Type 0} (step : Border A → X → Border A) → ((b : Border A) (x : X) → KeepsPlain b (step b x)) → (b : Border A) (xs : List X) → KeepsPlain b (fold step b xs)
  keeps_all step keeps b [] = (omega arith, λ e. e)
  keeps_all step keeps b (x ∷ xs) = grind (arith, keeps_all step keeps (step b x) xs)

  -- as a border below a row begins
  pub begins_plain : (style : RowStyle) (top : Option (Border A)) (cs : List (Cell A)) (b : Border A) → KeepsPlain b (next_begun style top cs b)
  begins_plain style top cs b = go style.collapses (joins top)
    where
      joins : (o : Option (Border A)) → KeepsPlain b (next_under o cs b)
      joins None = (omega arith, λ e. e)
      joins (Some t) =
          keeps_all (joined above) (λ m x. (omega (arith, length-changed (joined_cell above) x (stretched (x + 1) m.cells), length-stretched (x + 1) m.cells), λ e. e)) b (separators cs)

      go : (x : Bool) → KeepsPlain b (next_under top cs b) → KeepsPlain b (next_merged x (cells_under x top cs) (next_under top cs b))
      go true one =
          let later = keeps_all merged_above (λ m c. merged_plain above c.place m (last_mergeable c.lines)) (next_under top cs b) (cells_under true top cs) in
          (omega (arith, one.0, later.0), λ e. later.1 (one.1 e))
      go false one = one

  -- each cell of a row begins within its width
  pub first_within : (at : ℕ) (c : Cell A) (cs : List (Cell A)) → AreSideBySide at (c ∷ cs) → c.place ≤ row_width (c ∷ cs)
  first_within at c [] s = omega arith
  first_within at c (d ∷ cs) s = omega (arith, first_within (end_of c + 1) d cs s.1, s.1.0)

  pub within_row : (at : ℕ) (front : List (Cell A)) (c : Cell A) (rest : List (Cell A)) → AreSideBySide at (front ++ c ∷ rest) → c.place ≤ row_width (front ++ c ∷ rest)
  within_row at [] c rest s = first_within at c rest s
  within_row at (f ∷ []) c rest s = first_within (end_of f + 1) c rest s.1
  within_row at (f ∷ g ∷ front) c rest s = within_row (end_of f + 1) (g ∷ front) c rest s.1

-- ---- holes in order

module _ {A : Type 0} (columns : ℕ → Option ℕ) where
  -- the first of them is no earlier than at a place
  abbrev pub BeginAfter : ℕ → List (Hole A) → Type 0
  BeginAfter at [] = ⊤
  BeginAfter at (h ∷ hs) = at ≤ h.place

  -- elements in front of a border, each where the one before it ends
  abbrev pub holes_from : ℕ → List (Element A) → List (Hole A)
  holes_from at [] = []
  holes_from at (e ∷ es) =
      let width = items_width columns (element_items e) in
      record { place = at; width = width; element = e } ∷ holes_from (at + width) es

  ends_before : (from : ℕ) (hs : List (Hole A)) (end : ℕ) → HolesFill columns from hs end → last_end from hs ≤ end
  ends_before from [] end h = h
  ends_before from (g ∷ hs) end h = ends_before (g.place + g.width) hs end h.2

  in_order_from : (from at : ℕ) (es : List (Element A)) (end : ℕ) → from ≤ at → end ≡ at + items_width columns (items_of es) → HolesFill columns from (holes_from at es) end
  in_order_from from at [] end h e = omega (arith, h, e)
  in_order_from from at (x ∷ es) end h e =
      let width : ℕ = items_width columns (element_items x) in
      (h, refl, in_order_from (at + width) (at + width) es end (omega arith) (omega (arith, e, width_append columns (element_items x) (items_of es))))

  in_order_more : (from : ℕ) (hs : List (Hole A)) (at : ℕ) (es : List (Element A)) (end : ℕ) →
      HolesFill columns from hs at → end ≡ at + items_width columns (items_of es) → HolesFill columns from (hs ++ holes_from at es) end
  in_order_more from [] at es end h e = in_order_from from at es end h e
  in_order_more from (g ∷ hs) at es end h e = (h.0, h.1, in_order_more (g.place + g.width) hs at es end h.2 e)

  last_of : (hs : List (Hole A)) (h : Hole A) → span_end (hs ++ h ∷ []) ≡ h.place + h.width
  last_of [] h = refl
  last_of (g ∷ []) h = refl
  last_of (g ∷ k ∷ hs) h = last_of (k ∷ hs) h

  -- ---- elements that come in front of a border

  one_longer : (place : ℕ) (b : Border A) (e : Element A) → length b.cells ≤ length (with_element columns place b e).cells
  one_longer place b e = grind (arith, ℕ, length-opened, length-stretched)

  pub put_longer : (place : ℕ) (b : Border A) (es : List (Element A)) → length b.cells ≤ length (with_elements columns place b es).cells
  put_longer place b [] = omega arith
  put_longer place b (e ∷ es) = omega (arith, one_longer place b e, put_longer place (with_element columns place b e) es)

  pub put_holes : (place at : ℕ) (b : Border A) (es : List (Element A)) → max place (span_end b.holes) ≡ at → (with_elements columns place b es).holes ≡ b.holes ++ holes_from at es
  put_holes place at b [] is = sym (append-nil b.holes)
  put_holes place at b (e ∷ es) is =
      let width : ℕ = items_width columns (element_items e) in
      let first : Hole A = record { place = max place (span_end b.holes); width = width; element = e } in
      let here : Hole A = record { place = at; width = width; element = e } in
      let next : max place (span_end (b.holes ++ first ∷ [])) ≡ at + width = omega (arith, last_of b.holes first, is) in
      put_holes place (at + width) (with_element columns place b e) es next
      ∙ ap (λ n. let h : Hole A = record { place = n; width = width; element = e } in (b.holes ++ h ∷ []) ++ holes_from (at + width) es) is
      ∙ append_assoc b.holes (here ∷ []) (holes_from (at + width) es)

  -- ---- what a border shows

  module _ (one : DrawsInOne columns) (tag : A) (cells : List Segment) where
    drawn_two : (xs ys : List Segment) → drawn (xs ++ ys) tag ≡ drawn xs tag ++ drawn ys tag
    drawn_two xs ys = ap (λ cs. text_items cs tag) (map-append character xs ys) ∙ map-append _ (map character xs) (map character ys)

    -- cut at a column before what is there
    cut : (at p : ℕ) (hs : List (Hole A)) → at ≤ p → BeginAfter p hs → shown_from tag cells at hs ≡ drawn (slice_range cells at p) tag ++ shown_from tag cells p hs
    cut at p [] h k = ap (λ ds. drawn ds tag) (drop_split cells at p h) ∙ drawn_two (slice_range cells at p) (drop p cells)
    cut at p (g ∷ hs) h k =
        let sum : at + (p - at) ≡ p = omega (arith, h) in
        let far : g.place - at ≡ (p - at) + (g.place - p) = omega (arith, h, k) in
        rw (
          far,
          take-add (p - at) (g.place - p) (drop at cells),
          drop-drop (p - at) at cells,
          sum,
          drawn_two (slice_range cells at p) (slice_range cells p g.place),
        ) (simp append_assoc)

    -- what comes before a column
    pub shown_before : (from : ℕ) (hs : List (Hole A)) (p : ℕ) (more : List (Hole A)) → HolesFill columns from hs p → p ≤ length cells → BeginAfter p more →
        (before : List (Item A)) × (shown_from tag cells from (hs ++ more) ≡ before ++ shown_from tag cells p more) × (from + items_width columns before ≡ p)
    shown_before from [] p more h k past = (drawn (slice_range cells from p) tag, cut from p more h past, part_width columns one tag cells from p h k)
    shown_before from (g ∷ hs) p more h k past =
        let later = shown_before (g.place + g.width) hs p more h.2 k past in
        let front : List (Item A) = drawn (slice_range cells from g.place) tag in
        let here : List (Item A) = element_items g.element in
        let within : g.place ≤ length cells = omega (arith, k, later.2) in (
          front ++ (here ++ later.0),
          rw later.1 (simp append_assoc),
          omega (arith, part_width columns one tag cells from g.place h.0 within, width_append columns front (here ++ later.0), width_append columns here later.0, h.1, later.2),
        )

    -- and what from there on, where elements come one after another
    pub shown_here : (at : ℕ) (es : List (Element A)) (more : List (Hole A)) →
        shown_from tag cells at (holes_from at es ++ more) ≡ items_of es ++ shown_from tag cells (at + items_width columns (items_of es)) more
    shown_here at [] more = let same : at ≡ at + 0 = omega arith in ap (λ n. shown_from tag cells n more) same
    shown_here at (e ∷ es) more =
        let width : ℕ = items_width columns (element_items e) in
        let none : at - at ≡ 0 = omega arith in
        let sum : (at + width) + items_width columns (items_of es) ≡ at + items_width columns (items_of (e ∷ es)) = omega (arith, width_append columns (element_items e) (items_of es)) in
        rw (none, shown_here (at + width) es more, sum) (sym (append_assoc (element_items e) (items_of es) _))

  -- ---- gaps in a border, one after another

  after_both : (p : ℕ) (hs ks : List (Hole A)) → BeginAfter p hs → BeginAfter p ks → BeginAfter p (hs ++ ks)
  after_both p [] ks h k = k
  after_both p (g ∷ hs) ks h k = h

  from_after : (p at : ℕ) (es : List (Element A)) → p ≤ at → BeginAfter p (holes_from at es)
  from_after p at [] h = tt
  from_after p at (e ∷ es) h = h

  module _ (one : DrawsInOne columns) (same : A → A → Bool) (tells : TellsApart same) (draws : Bool) (tag : A) where
    abbrev gap : Cell A → List (Element A)
    gap d = gap_in same draws tag d

    abbrev gapped : Border A → Cell A → Border A
    gapped b d = with_gap same columns draws tag b d

    -- what is in a gap takes its cell's columns
    line_takes : (width : ℕ) (ls : List (RenderLine A)) → Each (Fills columns width) ls → items_width columns (items_of (gap_of same tag width (first_line ls))) ≡ width
    line_takes width [] h = grind (arith, append-nil, spaces_width)
    line_takes width (Text line ∷ ls) h = h.0
    line_takes width (Line b ∷ ls) h = ap (items_width columns) (longest_items same tells (shown b.tag b)) ∙ takes columns one b.tag width (Line b) h.0

    gap_width : (d : Cell A) → IsFilled columns d → items_width columns (items_of (gap d)) ≤ d.width
    gap_width d h =
        cond_both (has_gap draws d) (gap_of same tag d.width (first_line d.lines)) [] (λ (es : List (Element A)). items_width columns (items_of es) ≤ d.width)
        (λ _. omega (arith, line_takes d.width d.lines h)) (λ _. omega arith)

    -- Up to one of the cells: the border has gaps before its place alone.
    gaps_in_front : (ds more : List (Cell A)) (at : ℕ) (b : Border A) → AreSideBySide at (ds ++ more) → Each (IsFilled columns) ds → HolesFill columns 0 b.holes at →
        (to : ℕ) × AreSideBySide to more × HolesFill columns 0 (fold gapped b ds).holes to × (length b.cells ≤ length (fold gapped b ds).cells)
    gaps_in_front [] more at b side fills k = (at, side, k, omega arith)
    gaps_in_front (d ∷ ds) more at b side fills k =
        let there : HolesFill columns 0 b.holes d.place = rw side.0 k in
        let far : max d.place (span_end b.holes) ≡ d.place = omega (arith, span_end-is b.holes, ends_before 0 b.holes d.place there) in
        let end : ℕ = d.place + items_width columns (items_of (gap d)) in
        let order : HolesFill columns 0 (gapped b d).holes (end_of d + 1) =
        rw (put_holes d.place d.place b (gap d) far) (fill_later columns 0 (b.holes ++ holes_from d.place (gap d)) end (end_of d + 1)
        (in_order_more 0 b.holes d.place (gap d) end there refl) (omega (arith, gap_width d fills.0))) in
        let (to, more_side, ordered, longer) = gaps_in_front ds more (end_of d + 1) (gapped b d) side.1 fills.1 order in
        (to, more_side, ordered, omega (arith, put_longer d.place b (gap d), longer))

    -- and where no cell begins before a place, none of the gaps does
    gaps_after : (p : ℕ) (ds : List (Cell A)) (b : Border A) → Each (λ (d : Cell A). p ≤ d.place) ds →
        (hs : List (Hole A)) × ((fold gapped b ds).holes ≡ b.holes ++ hs) × BeginAfter p hs × (length b.cells ≤ length (fold gapped b ds).cells)
    gaps_after p [] b far = ([], sym (append-nil b.holes), tt, omega arith)
    gaps_after p (d ∷ ds) b far =
        let at : ℕ = max d.place (span_end b.holes) in
        let here : List (Hole A) = holes_from at (gap d) in
        let (hs, is, past, long) = gaps_after p ds (gapped b d) far.1 in (
          here ++ hs,
          is ∙ ap (λ ks. ks ++ hs) (put_holes d.place at b (gap d) refl) ∙ append_assoc b.holes here hs,
          after_both p here hs (from_after p at (gap d) (omega (arith, far.0))) past,
          omega (arith, put_longer d.place b (gap d), long),
        )

    places_after : (at p : ℕ) (ds : List (Cell A)) → p ≤ at → AreSideBySide at ds → Each (λ (d : Cell A). p ≤ d.place) ds
    places_after at p [] h s = tt
    places_after at p (d ∷ ds) h s = (omega (arith, h, s.0), places_after (end_of d + 1) p ds (omega (arith, h, s.0)) s.1)

    -- What a gap shows of its cell is in the cell's columns.
    pub gap_stands : (front : List (Cell A)) (c : Cell A) (rest : List (Cell A)) (b : Border A) (Is : List (Item A) → Type 0) → has_gap draws c ≡ true →
        AreSideBySide 0 (front ++ c ∷ rest) → Each (IsFilled columns) front → IsFilled columns c → b.holes ≡ [] → c.place ≤ length b.cells →
        Is (items_of (gap_of same tag c.width (first_line c.lines))) →
        (let full = fold gapped b (front ++ c ∷ rest) in HasInColumns columns (shown full.tag full) c.place c.width Is)
    gap_stands front c rest b Is has side fills own_fills none within shows =
        let es : List (Element A) = gap_of same tag c.width (first_line c.lines) in
        let m : Border A = fold gapped b front in
        let n : Border A = gapped m c in
        let full : Border A = fold gapped n rest in
        let whole : fold gapped b (front ++ c ∷ rest) ≡ full = fold-append gapped b front (c ∷ rest) in
        let own : gap c ≡ es = rw has refl in
        let (to, more_side, order, longer) = gaps_in_front front (c ∷ rest) 0 b side fills (rw none (omega arith)) in
        let ordered : HolesFill columns 0 m.holes c.place = subst (λ k. HolesFill columns 0 m.holes k) (sym more_side.0) order in
        let far : max c.place (span_end m.holes) ≡ c.place = omega (arith, span_end-is m.holes, ends_before 0 m.holes c.place ordered) in
        let (hs, holes, past, long) = gaps_after c.place rest n (places_after (end_of c + 1) c.place rest (omega arith) more_side.1) in
        let later : List (Hole A) = holes_from c.place es ++ hs in
        let put : n.holes ≡ m.holes ++ holes_from c.place es = put_holes c.place c.place m (gap c) far ∙ ap (λ ds. m.holes ++ holes_from c.place ds) own in
        let all : full.holes ≡ m.holes ++ later = holes ∙ ap (λ ks. ks ++ hs) put ∙ append_assoc m.holes (holes_from c.place es) hs in
        let inside : c.place ≤ length full.cells = omega (arith, within, longer, put_longer c.place m (gap c), long) in
        let starts : BeginAfter c.place later = after_both c.place (holes_from c.place es) hs (from_after c.place c.place es (omega arith)) past in
        let front_shown = shown_before one full.tag full.cells 0 m.holes c.place later ordered inside starts in
        subst (λ (x : Border A). HasInColumns columns (shown x.tag x) c.place c.width Is) (sym whole) (record {
          before = front_shown.0;
          here = items_of es;
          after = shown_from full.tag full.cells (c.place + items_width columns (items_of es)) hs;
          parts =
              ap (shown_from full.tag full.cells 0) all ∙ rw (front_shown.1, shown_here one full.tag full.cells c.place es hs)
              (sym (append_assoc front_shown.0 (items_of es) _));
          place = omega (arith, front_shown.2);
          width = line_takes c.width c.lines own_fills;
          is = shows;
        })
