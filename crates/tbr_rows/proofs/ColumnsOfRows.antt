-- What a row shows of its cells and leaves of them, and that it takes their columns.
use Rattle.tbr_rows.proofs.Common.{◌≡◌, if◌then◌else◌, ℕ, ◌+◌, ◌-◌, ◌≤◌, Bool, true, false, Option, Some, None, List, [], ◌∷◌, ◌++◌, map, take, drop, length, refl, arith, is_some, nat_lt}
use Rattle.tbr_rows.proofs.Common.{Each, cond_both, map-map, each_map, Border, has_holes, RenderLine, Text, Line, Cell, Column, AreSideBySide, AreApart, end_of, cell_in, overhang}
use Rattle.tbr_rows.proofs.Common.{cells_under, columns_shown, cells_left, first_mergeable, last_mergeable, after_mergeable, before_mergeable, meeting, met, DrawsInOne, TakesColumns}
use Rattle.tbr_rows.proofs.Common.{FillsBelow, TakesCellColumns, Fills, IsFilled}
use Rattle.tbr_rows.proofs.FilledCells.{shown_width, cell_fills}
use Rattle.tbr_rows.proofs.Among.{each_drop, each_gives, each_take}

-- ---- the columns of a row

-- what a row shows of a cell
abbrev pub column_of : {A : Type 0} → Bool → Option (Border A) → Cell A → Column A
column_of collapses top c = record {
  cell = met (meeting collapses top 0) c;
  bottom = if collapses then last_mergeable (if is_some top then after_mergeable c.lines else c.lines) else None;
}

pub columns_are : {A : Type 0} (collapses : Bool) (top : Option (Border A)) (cs : List (Cell A)) → columns_shown collapses (cells_under collapses top cs) ≡ map (column_of collapses top) cs
columns_are true None cs = refl
columns_are true (Some b) cs = rw map-map refl
columns_are false None cs = refl
columns_are false (Some b) cs = refl

-- cells that change their lines alone stay in their places
pub keep_places : {A : Type 0} (lines : Cell A → List (RenderLine A)) (at : ℕ) (cs : List (Cell A)) → AreSideBySide at cs →
    AreSideBySide at (map (λ (c : Cell A). let d : Cell A = record c { lines = lines c } in d) cs)
keep_places lines at [] s = tt
keep_places lines at (c ∷ cs) s = (s.0, keep_places lines (end_of c + 1) cs s.1)

overhang_apart : {A : Type 0} (draws : Bool) (from at : ℕ) (cs : List (Cell A)) → from ≤ at → AreSideBySide at cs → AreApart from (overhang draws cs)
overhang_apart draws from at [] before s = tt
overhang_apart {A} draws from at (c ∷ cs) before s =
    cond_both (nat_lt 1 c.span) (record c { span = c.span - 1; lines = drop (if draws then 1 else 0) c.lines } ∷ []) []
    (λ hs. AreApart from (hs ++ overhang draws cs))
    (λ e. (omega (arith, before, s.0), overhang_apart draws (end_of c + 1) (end_of c + 1) cs (omega arith) s.1))
    (λ e. overhang_apart draws from (end_of c + 1) cs (omega (arith, before, s.0)) s.1)

module _ {A : Type 0} (collapses : Bool) (top : Option (Border A)) (height : ℕ) where
  pub cell_is : (c : Cell A) → cell_in (column_of collapses top c) ≡ met (meeting collapses top height) c
  cell_is c = refl

  pub span_stays : (c : Cell A) → (column_of collapses top c).cell.span ≡ c.span
  span_stays c = refl

  pub columns_side_by_side : (cs : List (Cell A)) → AreSideBySide 0 cs → AreSideBySide 0 (map cell_in (map (column_of collapses top) cs))
  columns_side_by_side cs s = rw map-map (keep_places (λ c. (column_of collapses top c).cell.lines) 0 cs s)

  -- what overhangs of a row
  pub rest_apart : (draws : Bool) (cs : List (Cell A)) → AreSideBySide 0 cs →
      AreApart 0 (overhang draws (cells_left height (columns_shown collapses (cells_under collapses top cs))))
  rest_apart draws cs s =
      simp (columns_are collapses top cs, map-map) (overhang_apart draws 0 0 _ (omega arith)
      (keep_places (λ c. drop height (column_of collapses top c).cell.lines) 0 cs s))

module _ {A : Type 0} (P : RenderLine A → Type 0) where
  after_first : (ls : List (RenderLine A)) → Each P ls → Each P (after_mergeable ls)
  after_first ls h = cond_both (is_some (first_mergeable ls)) (drop 1 ls) ls (Each P) (λ e. each_drop P 1 ls h) (λ e. h)

  before_last : (ls : List (RenderLine A)) → Each P ls → Each P (before_mergeable ls)
  before_last ls h = cond_both (is_some (last_mergeable ls)) (take (length ls - 1) ls) ls (Each P) (λ e. each_take P (length ls - 1) ls h) (λ e. h)

  pub lines_stay : (collapses : Bool) (top : Option (Border A)) (c : Cell A) → Each P c.lines → Each P (column_of collapses top c).cell.lines
  lines_stay true None c h = before_last c.lines h
  lines_stay true (Some b) c h = before_last (after_mergeable c.lines) (after_first c.lines h)
  lines_stay false top c h = h

-- ---- cells whose lines take their columns

module _ {A : Type 0} (columns : ℕ → Option ℕ) (one : DrawsInOne columns) where
  pub takes : (tag : A) (width : ℕ) (l : RenderLine A) → Fills columns width l → TakesColumns columns tag width l
  takes tag width (Text es) h = h
  takes tag width (Line b) h = omega (arith, shown_width columns one tag b.cells 0 b.holes h.1, h.0)

  below_first : (width : ℕ) (ls : List (RenderLine A)) → Each (Fills columns width) ls → FillsBelow width (first_mergeable ls)
  below_first width [] h = tt
  below_first width (Text es ∷ ls) h = tt
  below_first width (Line b ∷ ls) h = cond_both (has_holes b.holes) None (Some b) (FillsBelow width) (λ e. tt) (λ e. h.0.0)

  below_last : (width : ℕ) (ls : List (RenderLine A)) → Each (Fills columns width) ls → FillsBelow width (last_mergeable ls)
  below_last width ls h = below_first width (drop (length ls - 1) ls) (each_drop (Fills columns width) (length ls - 1) ls h)

  below : (collapses : Bool) (top : Option (Border A)) (c : Cell A) → IsFilled columns c → FillsBelow c.width (column_of collapses top c).bottom
  below true None c h = below_last c.width c.lines h
  below true (Some b) c h = below_last c.width (after_mergeable c.lines) (after_first (Fills columns c.width) c.lines h)
  below false top c h = tt

  pub column_fills : (collapses : Bool) (top : Option (Border A)) (tag : A) (i : ℕ) (c : Cell A) → IsFilled columns c → TakesCellColumns columns tag i (column_of collapses top c)
  column_fills collapses top tag i c h =
      let k : Column A = column_of collapses top c in
      cell_fills columns tag i k one (
        below collapses top c h,
        each_gives (Fills columns c.width) (TakesColumns columns tag c.width) (takes tag c.width) k.cell.lines
            (lines_stay (Fills columns c.width) collapses top c h),
      )

  pub columns_fill : (collapses : Bool) (top : Option (Border A)) (tag : A) (i : ℕ) (cs : List (Cell A)) →
      Each (IsFilled columns) cs → Each (TakesCellColumns columns tag i) (map (column_of collapses top) cs)
  columns_fill collapses top tag i cs h =
      each_map (column_of collapses top) (IsFilled columns) (TakesCellColumns columns tag i) (column_fills collapses top tag i) cs h
