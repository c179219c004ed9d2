-- What rows of cells show of each cell, over all rows of its span.
use Rattle.std.specs.Prelude.{◌≡◌, ℕ, ◌<◌, ⊤, Bool, true, Option, Some, List, [], ◌∷◌, ◌++◌, length, map}
use Rattle.std.specs.List.{slice_get, AllByRecursion as Each}
use Rattle.tbr_model.specs.Run.{Item, items_width}
use Rattle.tbr_model.specs.Layout.{joined}
use Rattle.tbr_border.specs.Border.{Border, shown}
use Rattle.tbr_border.specs.RenderLine.{line_items}
use Rattle.tbr_border.specs.declared.render_line.RenderLine.{RenderLine}
use Rattle.tbr_border.specs.declared.render_line.RenderLine.TheVariants.{Text, Line}
use Rattle.tbr_tagged.specs.Elements.{items_of}
use Rattle.tbr_rows.specs.declared.line_set.LineSet.{LineSet as Cell}
use Rattle.tbr_rows.specs.declared.row.RowStyle.{RowStyle}
use Rattle.tbr_rows.specs.Cells.{AreSideBySide, AreApart, with_hanging}
use Rattle.tbr_rows.specs.Texts.{row_height}
use Rattle.tbr_border.specs.RenderLine.{items_under}
use Rattle.tbr_rows.specs.Gaps.{has_gap}
use Rattle.tbr_rows.specs.Rows.{SeenRow, shown_in, row_under}
use Rattle.tbr_rows.specs.Meant.{TellsApart}
use Rattle.tbr_rows.specs.Shown.{Meeting, meeting, met, continued, parts_of, texts_in, HolesFill}

-- The cells of which a row is made, in their places: those that overhang, and its own. What tells tags apart is given.
pub record MadeRow (A : Type 0) (columns : ℕ → Option ℕ) : Type 0 where
  pub same : A → A → Bool
  pub tells : TellsApart same
  pub style : RowStyle
  pub tag : A
  pub hanging : List (Cell A)
  pub own : List (Cell A)
  pub side_by_side : AreSideBySide 0 own
  pub top : Option (Border A)
  pub cells : List (Cell A)
  pub seated : with_hanging 0 hanging own ≡ Some cells

-- It is somewhere in a list.
abbrev pub StandsAmong : {X : Type 0} → X → List X → Type 0
StandsAmong {X} x xs = (front rest : List X) × (xs ≡ front ++ x ∷ rest)

-- ---- lines that fit

-- a line takes so many columns: a text, or a border with what is in front of it
abbrev pub Fills : {A : Type 0} → (ℕ → Option ℕ) → ℕ → RenderLine A → Type 0
Fills columns width (Text es) = items_width columns (items_of es) ≡ width
Fills columns width (Line b) = (length b.cells ≡ width) × HolesFill columns 0 b.holes (length b.cells)

-- and so does each line of a cell
abbrev pub IsFilled : {A : Type 0} → (ℕ → Option ℕ) → Cell A → Type 0
IsFilled columns c = Each (Fills columns c.width) c.lines

module _ {A : Type 0} (columns : ℕ → Option ℕ) where
  -- ---- one row

  -- the row itself
  abbrev pub row_made : MadeRow A columns → SeenRow A
  row_made r = row_under r.same columns r.style r.tag r.top r.cells

  -- what each cell of it meets
  abbrev pub meeting_in : MadeRow A columns → Meeting
  meeting_in r = meeting r.style.collapses r.top (row_height (shown_in r.style r.top r.cells))

  -- A line has something in the columns from a place on.
  pub record HasInColumns (line : List (Item A)) (from wide : ℕ) (Is : List (Item A) → Type 0) : Type 0 where
    pub before : List (Item A)
    pub here : List (Item A)
    pub after : List (Item A)
    pub parts : line ≡ before ++ here ++ after
    pub place : items_width columns before ≡ from
    pub width : items_width columns here ≡ wide
    pub is : Is here

  -- Line i of the row has in the cell's columns what is shown of it: its line i, if it has one.
  abbrev pub ShowsAt : MadeRow A columns → Cell A → ℕ → Type 0
  ShowsAt r c i =
      (line : List (Item A)) × (slice_get (row_made r).lines i ≡ Some line)
      × HasInColumns line c.place c.width (λ here. (l : RenderLine A) → slice_get (met (meeting_in r) c).lines i ≡ Some l →
      here ≡ items_under r.tag l)

  -- The border below the row has in the cell's columns its line after those of the row, if it has one.
  abbrev pub ShowsBelow : MadeRow A columns → Cell A → Type 0
  ShowsBelow r c =
      (b : Border A) × ((row_made r).next ≡ Some b)
      × HasInColumns (shown b.tag b) c.place c.width (λ here. (l : RenderLine A) →
      slice_get (met (meeting_in r) c).lines (length (row_made r).lines) ≡ Some l → here ≡ line_items l)

  -- In each line of the row what is shown of the cell is in its columns. So it is in the border below, if borders are
  -- drawn and the cell spans another row.
  pub record StandsInItsColumns (r : MadeRow A columns) (c : Cell A) : Type 0 where
    pub in_lines : (i : ℕ) → i < length (row_made r).lines → ShowsAt r c i
    pub in_next : has_gap r.style.draws_borders c ≡ true → ShowsBelow r c

  -- ---- the rows of a cell

  -- in each of them what is left of it by then
  abbrev pub StandsInAll : List (MadeRow A columns) → Cell A → Type 0
  StandsInAll [] c = ⊤
  StandsInAll (r ∷ rs) c = StandsInItsColumns r c × StandsInAll rs (continued r.style.draws_borders (meeting_in r) c)

  -- Each row has what overhangs of the one before, and all draw borders, or none.
  abbrev pub FollowOneAnother : Bool → List (MadeRow A columns) → Type 0
  FollowOneAnother draws [] = ⊤
  FollowOneAnother draws (r ∷ []) = r.style.draws_borders ≡ draws
  FollowOneAnother draws (r ∷ q ∷ rs) =
      (r.style.draws_borders ≡ draws) × (q.hanging ≡ (row_made r).overhang) × FollowOneAnother draws (q ∷ rs)

  -- the lines of their own cells fit
  abbrev pub HasFilledCells : MadeRow A columns → Type 0
  HasFilledCells r = Each (IsFilled columns) r.own

  -- A cell of the first row, in which what overhangs is apart, and its lines fit too.
  abbrev pub IsOfFirst : Cell A → List (MadeRow A columns) → Type 0
  IsOfFirst c [] = ⊥
  IsOfFirst c (r ∷ rs) =
      StandsAmong c r.cells × AreApart 0 r.hanging × Each (IsFilled columns) r.hanging

  -- The rows of a cell's span show its texts once, in order, in its own columns.
  pub record ShowsTexts (draws : Bool) (rows : List (MadeRow A columns)) (c : Cell A) : Type 0 where
    pub once : texts_in (joined (parts_of draws (map meeting_in rows) c)) ≡ texts_in c.lines
    pub in_its_columns : StandsInAll rows c
