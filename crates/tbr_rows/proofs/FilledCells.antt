-- What a row has of a cell takes the cell's columns.
use Rattle.tbr_rows.proofs.Common.{◌≡◌, ℕ, zero, suc, ◌+◌, ◌<◌, Bool, true, false, Option, None, Some, unwrap_or, List, [], ◌∷◌, map, take, drop, length, get_or, set, drop-cons, refl, ap}
use Rattle.tbr_rows.proofs.Common.{◌∙◌, arith, ◌≤◌, slice_range, AllZip, Each, Item, items_width, RenderLine, Text, Line, Segment, character, Hole, Border, stretched, drawn, shown_from}
use Rattle.tbr_rows.proofs.Common.{shown, CellAlign, items_of, text_items, spaces, columns_missing, aligned_items, same_width, length-replicate, length-map, length-take-le, cond_both}
use Rattle.tbr_rows.proofs.Common.{length-stretched, Column, FillsLine, text_of_lines, filler_above, DrawsInOne, HolesFill, TakesColumns, FillsBelow, TakesCellColumns}
use Rattle.std.proofs.Common.{IsTrue}
use Rattle.tbr_model.specs.Width.{takes_one_column}
use Rattle.tbr_border.specs.Cell.{slash, arms, line_above}
use Rattle.tbr_tagged.proofs.PaddedLines.{front_within}
use Rattle.std.proofs.lemmas.List.{length-drop, drop-set-lt, take_more_set}
use Rattle.std.proofs.lemmas.List.Elements.{all_zip_more}
use Rattle.tbr_rows.proofs.Among.{each_drop}
use Rattle.tbr_rows.specs.Shown.{LineFits, LinesFillCell}
use Rattle.tbr_rows.proofs.CellColumns.{width_append}

-- characters of one column
text_columns : {A : Type 0} (columns : ℕ → Option ℕ) (cs : List ℕ) (a : A) → DrawsInOne columns → Each (λ c. IsTrue (takes_one_column c)) cs →
    items_width columns (text_items cs a) ≡ length cs
text_columns columns [] a one narrow = refl
text_columns columns (c ∷ cs) a one narrow = omega (arith, ap (λ (o : Option ℕ). unwrap_or o 0) (one c narrow.0), text_columns columns cs a one narrow.1)

pub spaces_narrow : (n : ℕ) → Each (λ c. IsTrue (takes_one_column c)) (spaces n)
spaces_narrow zero = tt
spaces_narrow (suc n) = (refl, spaces_narrow n)

pub spaces_width : {A : Type 0} (columns : ℕ → Option ℕ) → DrawsInOne columns → (n : ℕ) (a : A) → items_width columns (text_items (spaces n) a) ≡ n
spaces_width columns one n a = text_columns columns (spaces n) a one (spaces_narrow n) ∙ length-replicate {A = ℕ} n 32

pub character_narrow : (c : Segment) → IsTrue (takes_one_column (character c))
character_narrow slash = refl
character_narrow (arms true true true true) = refl
character_narrow (arms true true false true) = refl
character_narrow (arms true false true true) = refl
character_narrow (arms true false false true) = refl
character_narrow (arms false true true true) = refl
character_narrow (arms false true false true) = refl
character_narrow (arms false false true true) = refl
character_narrow (arms false false false true) = refl
character_narrow (arms l r u d) = refl

pub drawn_narrow : (cells : List Segment) → Each (λ c. IsTrue (takes_one_column c)) (map character cells)
drawn_narrow [] = tt
drawn_narrow (c ∷ cells) = (character_narrow c, drawn_narrow cells)

pub above_narrow : (cells : List Segment) → Each (λ c. IsTrue (takes_one_column c)) (map line_above cells)
above_narrow [] = tt
above_narrow (c ∷ cells) = grind (arith, cond_both, above_narrow cells)

-- a text that is filled up takes so many columns more
pub aligned_width : {A : Type 0} (columns : ℕ → Option ℕ) → DrawsInOne columns →
    (align : CellAlign) (is : List (Item A)) (missing : ℕ) (a : A) →
    items_width columns (aligned_items align is missing a) ≡ items_width columns is + missing
aligned_width {A} columns one align is missing a = grind (arith, ℕ, width_append, spaces_width, front_within)

-- ---- borders with text in front

module _ {A : Type 0} (columns : ℕ → Option ℕ) where
  pub fill_later : (from : ℕ) (hs : List (Hole A)) (end later : ℕ) → HolesFill columns from hs end → end ≤ later → HolesFill columns from hs later
  fill_later from [] end later h k = omega (arith, h, k)
  fill_later from (g ∷ hs) end later h k = (h.0, h.1, fill_later (g.place + g.width) hs end later h.2 k)

  fill_forward : (from : ℕ) (hs : List (Hole A)) (end : ℕ) → HolesFill columns from hs end → from ≤ end
  fill_forward from [] end h = h
  fill_forward from (g ∷ hs) end h = omega (arith, h.0, fill_forward (g.place + g.width) hs end h.2)

  module _ (one : DrawsInOne columns) (tag : A) (cells : List Segment) where
    drawn_width : (part : List Segment) → items_width columns (drawn part tag) ≡ length part
    drawn_width part = text_columns columns (map character part) tag one (drawn_narrow part) ∙ length-map part character

    pub part_width : (from to : ℕ) → from ≤ to → to ≤ length cells → from + items_width columns (drawn (slice_range cells from to) tag) ≡ to
    part_width from to h k = grind (arith, length-drop, drawn_width, slice_range, length-take-le)

    -- what a border shows takes as many columns as it has cells
    pub shown_width : (from : ℕ) (hs : List (Hole A)) → HolesFill columns from hs (length cells) → from + items_width columns (shown_from tag cells from hs) ≡ length cells
    shown_width from [] h = omega (arith, h, drawn_width (drop from cells), length-drop from cells)
    shown_width from (g ∷ hs) h = grind (arith, slice_range, fill_forward, part_width, width_append, shown_width (g.place + g.width) hs h.2)

-- a line that fits takes its cell's columns once it is filled
pub filled_line : {A : Type 0} (columns : ℕ → Option ℕ) (eq : A → A → Bool) (align : CellAlign) (width : ℕ) (a t : A) (l done : RenderLine A) → DrawsInOne columns → LineFits columns width l →
    FillsLine columns eq align width a l done → TakesColumns columns t width done
filled_line columns eq align width a t (Text es) (Text done) one fits fills =
    let missing : ℕ = columns_missing columns width es in
    omega (
      arith,
      same_width columns eq (items_of done) (aligned_items align (items_of es) missing a) fills.0,
      aligned_width columns one align (items_of es) missing a,
      fits,
    )
filled_line {A} columns eq align width a t (Line b) (Line done) one fits fills =
    let cells : List Segment = stretched width b.cells in
    let full : length cells ≡ width = omega (arith, length-stretched width b.cells, fits.0) in
    let inside : HolesFill columns 0 b.holes (length cells) = fill_later columns 0 b.holes (length b.cells) (length cells) fits.1 (omega (arith, full, fits.0)) in
    ap (λ (c : Border A). items_width columns (shown t c)) fills ∙ omega (arith, shown_width columns one t cells 0 b.holes inside, full)
filled_line columns eq align width a t (Text es) (Line done) one fits fills = absurd fills
filled_line columns eq align width a t (Line b) (Text done) one fits fills = absurd fills

filler_columns : {A : Type 0} (columns : ℕ → Option ℕ) (a : A) (width : ℕ) (bottom : Option (Border A)) →
    DrawsInOne columns → FillsBelow width bottom → items_width columns (text_items (filler_above width bottom) a) ≡ width
filler_columns columns a width None one fills = spaces_width columns one width a
filler_columns columns a width (Some b) one fills = text_columns columns (map line_above b.cells) a one (above_narrow b.cells) ∙ length-map b.cells line_above ∙ fills

lines_fill : {A : Type 0} (columns : ℕ → Option ℕ) (a : A) (c : Column A) (ls : List (RenderLine A)) →
    DrawsInOne columns → FillsBelow c.cell.width c.bottom → Each (TakesColumns columns a c.cell.width) ls →
    items_width columns (text_of_lines a c ls) ≡ c.cell.width
lines_fill columns a c [] one below lines = filler_columns columns a c.cell.width c.bottom one below
lines_fill columns a c (l ∷ ls) one below lines = lines.0

-- a cell whose lines take its columns fills them in each line of the row
pub cell_fills : {A : Type 0} (columns : ℕ → Option ℕ) (a : A) (i : ℕ) (c : Column A) → DrawsInOne columns → LinesFillCell columns a c → TakesCellColumns columns a i c
cell_fills columns a i c one fills = lines_fill columns a c (drop i c.cell.lines) one fills.0 (each_drop (TakesColumns columns a c.cell.width) i c.cell.lines fills.1)

-- one line more of a list is filled where it is
pub one_more_filled : {A : Type 0} (R : A → A → Type 0) (all now : List A) (i : ℕ) (d y : A) → i < length all → R (get_or now i d) y → AllZip R (take i all) (take i now) → drop i now ≡ drop i all →
    AllZip R (take (i + 1) all) (take (i + 1) (set now i y)) × (drop (i + 1) (set now i y) ≡ drop (i + 1) all)
one_more_filled R all now i d y in_all fills before left =
    let below : i < length now = omega (arith, in_all, length-drop i now, length-drop i all, ap length left) in
    let old = drop-cons all i (get_or now i d) in_all in
    let new = drop-cons now i d below in
    let first : get_or now i d ≡ get_or all i (get_or now i d) = cc in
    let others : drop (suc i) now ≡ drop (suc i) all = cc in
    let next : suc i ≡ i + 1 = omega arith in (
      rw (take_more_set now i y below) (all_zip_more R all (take i now) i (get_or now i d) y in_all first before fills),
      drop-set-lt (i + 1) now i y (omega arith) ∙ rw (← next) others,
    )
