-- Rows lose no line of a cell.
use Rattle.tbr_rows.proofs.Common.{◌≡◌, if◌then◌else◌, ℕ, ◌-◌, ◌≤◌, ◌&&◌, Bool, true, false, Option, None, Some, List, [], ◌∷◌, ◌++◌, map, take, drop, length, fold, max, refl, ap, sym, ◌∙◌}
use Rattle.tbr_rows.proofs.Common.{arith, append_assoc, append-nil, nat_lt, is_some, flat_map, take_all, Each, le-leb, cond_both, RenderLine, Text, Line, Border, has_holes, Cell, Column}
use Rattle.tbr_rows.proofs.Common.{cell_height, first_mergeable, last_mergeable, after_mergeable, before_mergeable, without_first_border, row_height, dropped, overhang_of, overhang, cell_in}
use Rattle.tbr_rows.proofs.Common.{later_of, met, continued, goes_on, meeting, AreItsRows, cells_under, columns_shown, cells_left, map-map}
use Rattle.std.proofs.Common.{take-append-drop, length-drop}
use Rattle.std.proofs.lemmas.Bool.{ltb-false}
use Rattle.tbr_model.specs.Layout.{joined}
use Rattle.tbr_rows.specs.Shown.{part_of, as_lines, Meeting, merged_first, merged_last, parts_of, parts_and_merged, texts_in}
use Rattle.std.proofs.lemmas.List.Folds.{flat_map-map}
use Rattle.tbr_rows.proofs.Squares.{if_both}
use Rattle.tbr_rows.proofs.ColumnsOfRows.{column_of, columns_are}

-- what a row shows of a cell and what it leaves are its lines
pub part_and_later : {A : Type 0} (draws : Bool) (height : ℕ) (c : Cell A) → cell_height c ≤ height → part_of draws height c ++ later_of draws height c ≡ c.lines
part_and_later {A} draws height c high = go (nat_lt 1 c.span) draws refl
  where
    ls : List (RenderLine A)
    ls = c.lines

    all : nat_lt 1 c.span ≡ false → take height ls ≡ ls
    all spans = take_all height ls (rw (le-leb c.span 1 (ltb-false 1 c.span spans)) at high)

    go : (s d : Bool) → nat_lt 1 c.span ≡ s →
        (take height ls ++ (if d && s then take 1 (drop height ls) else []))
        ++ flat_map (λ (k : Cell A). k.lines) (if s then record c { span = c.span - 1; lines = drop (if d then 1 else 0) (drop height ls) } ∷ [] else []) ≡ ls
    go true true spans = simp (append-nil, append_assoc, take-append-drop)
    go true false spans = simp (append-nil, take-append-drop)
    go false true spans = simp append-nil (all spans)
    go false false spans = simp append-nil (all spans)

-- ---- heights

abbrev highest : {A : Type 0} → ℕ → List (Column A) → ℕ
highest {A} h cs = fold (λ (n : ℕ) (c : Column A). max n (cell_height c.cell)) h cs

at_least : {A : Type 0} (h : ℕ) (cs : List (Column A)) → (h ≤ highest h cs) × Each (λ (c : Column A). cell_height c.cell ≤ highest h cs) cs
at_least h [] = (omega arith, tt)
at_least h (c ∷ cs) = let (more, each) = at_least (max h (cell_height c.cell)) cs in (omega (arith, more), (omega (arith, more), each))

pub row_is_high_enough : {A : Type 0} (cs : List (Column A)) → Each (λ (c : Column A). cell_height c.cell ≤ row_height cs) cs
row_is_high_enough cs = (at_least 0 cs).1

-- ---- merged borders

first_and_after : {A : Type 0} (ls : List (RenderLine A)) → as_lines (first_mergeable ls) ++ after_mergeable ls ≡ ls
first_and_after [] = refl
first_and_after (Text es ∷ ls) = refl
first_and_after (Line b ∷ ls) =
    cond_both (has_holes b.holes) None (Some b) (λ o. as_lines o ++ (if is_some o then ls else Line b ∷ ls) ≡ Line b ∷ ls) (λ e. refl) (λ e. refl)

split_last : {A : Type 0} (front back : List (RenderLine A)) → length back ≤ 1 → (if is_some (first_mergeable back) then front else front ++ back) ++ as_lines (first_mergeable back) ≡ front ++ back
split_last front [] short = append-nil (front ++ [])
split_last front (Text es ∷ []) short = append-nil (front ++ Text es ∷ [])
split_last front (Line b ∷ []) short = grind (arith, cond_both, append-nil)
split_last front (l ∷ k ∷ ls) short = absurd (let no : ⊥ = omega (arith, short) in no)

before_and_last : {A : Type 0} (ls : List (RenderLine A)) → before_mergeable ls ++ as_lines (last_mergeable ls) ≡ ls
before_and_last {A} ls =
    let n : ℕ = length ls - 1 in
    let whole : take n ls ++ drop n ls ≡ ls = take-append-drop n ls in
    ap (λ (xs : List (RenderLine A)). (if is_some (last_mergeable ls) then take n ls else xs) ++ as_lines (last_mergeable ls)) (sym whole)
    ∙ split_last (take n ls) (drop n ls) (omega (arith, length-drop n ls)) ∙ whole

pub merged_and_left : {A : Type 0} (m : Meeting) (c : Cell A) → merged_first m c ++ (met m c).lines ++ merged_last m c ≡ c.lines
merged_and_left {A} m c = go m.first m.last
  where
    go : (f l : Bool) → (let d : Meeting = record { first = f; last = l; height = 0 } in merged_first d c ++ (met d c).lines ++ merged_last d c) ≡ c.lines
    go true true = append_assoc (as_lines (first_mergeable c.lines)) _ _ ∙ rw (before_and_last (after_mergeable c.lines)) (first_and_after c.lines)
    go true false = append-nil (as_lines (first_mergeable c.lines) ++ after_mergeable c.lines) ∙ first_and_after c.lines
    go false true = before_and_last c.lines
    go false false = append-nil c.lines

-- ---- over all rows

pub all_rows : {A : Type 0} (draws : Bool) (ms : List Meeting) (c : Cell A) → AreItsRows draws ms c → parts_and_merged draws ms c ≡ c.lines
all_rows draws [] c h = sym h
all_rows draws (m ∷ ms) c h = rw (all_rows draws ms (continued draws m c) h.1, part_and_later draws m.height (met m c) h.0) (merged_and_left m c)

texts_append : {A : Type 0} (xs ys : List (RenderLine A)) → texts_in (xs ++ ys) ≡ texts_in xs ++ texts_in ys
texts_append [] ys = refl
texts_append (Text es ∷ xs) ys = rw (texts_append xs ys) refl
texts_append (Line b ∷ xs) ys = rw (texts_append xs ys) (if_both (λ ls. ls ++ texts_in ys) (has_holes b.holes) (Line b ∷ texts_in xs) (texts_in xs))

-- a border that is merged has no text in front of it
no_text : {A : Type 0} (merges : Bool) (ls : List (RenderLine A)) → texts_in (if merges then as_lines (first_mergeable ls) else []) ≡ []
no_text false ls = refl
no_text true [] = refl
no_text true (Text es ∷ ls) = refl
no_text true (Line b ∷ ls) = cond_both (has_holes b.holes) None (Some b) (λ o. texts_in (as_lines o) ≡ []) (λ e. refl) (λ e. rw e refl)

texts_left : {A : Type 0} (m : Meeting) (c : Cell A) → texts_in (met m c).lines ≡ texts_in c.lines
texts_left m c =
    let under = (if m.first then without_first_border c else c).lines in
    sym (ap texts_in (sym (merged_and_left m c)) ∙ simp (texts_append, no_text m.first c.lines, no_text m.last (drop (length under - 1) under), append-nil))

-- Over all rows of its span a cell shows its texts, once and in order.
pub all_texts : {A : Type 0} (draws : Bool) (ms : List Meeting) (c : Cell A) → AreItsRows draws ms c → texts_in (joined (parts_of draws ms c)) ≡ texts_in c.lines
all_texts draws [] c h = ap texts_in (sym h)
all_texts draws (m ∷ ms) c h =
    rw (
      texts_append,
      all_texts draws ms (continued draws m c) h.1,
      ← texts_append (part_of draws m.height (met m c)),
      part_and_later draws m.height (met m c) h.0,
    ) (texts_left m c)

-- ---- the cells of a row

pub cells_meet : {A : Type 0} (collapses : Bool) (top : Option (Border A)) (height : ℕ) (cs : List (Cell A)) →
    map cell_in (columns_shown collapses (cells_under collapses top cs)) ≡ map (met (meeting collapses top height)) cs
cells_meet collapses top height cs = rw (columns_are collapses top cs, map-map) refl

pub rows_go_on : {A : Type 0} (draws collapses : Bool) (top : Option (Border A)) (height : ℕ) (cs : List (Cell A)) →
    overhang draws (cells_left height (columns_shown collapses (cells_under collapses top cs))) ≡ flat_map (goes_on draws (meeting collapses top height)) cs
rows_go_on {A} draws collapses top height cs = simp (columns_are collapses top cs, map-map, flat_map-map) (λ i. flat_map (λ c. one c i) cs)
  where
    one : (c : Cell A) → overhang_of draws (cell_in (dropped height (column_of collapses top c))) ≡ goes_on draws (meeting collapses top height) c
    one c = go (nat_lt 1 c.span)
      where
        next : List (RenderLine A) → Cell A
        next ls = record c { span = c.span - 1; lines = ls }

        left : List (RenderLine A)
        left = drop (if draws then 1 else 0) (drop height (column_of collapses top c).cell.lines)

        go : (s : Bool) → (let here : List (Cell A) = if s then next left ∷ [] else [] in here ≡ (if s then next (flat_map (λ k. k.lines) here) ∷ [] else []))
        go true = rw append-nil refl
        go false = refl
